use Rattle.specification.proofs.worked.worked_certificates.Goals as goal
use Rattle.specification.proofs.rows.Certificates as row

pub returns-clause-valid_certificates : goal.returns-clause-valid_certificates
returns-clause-valid_certificates c = row.valid_certificates

pub returns-clause-written_rows : goal.returns-clause-written_rows
returns-clause-written_rows c = row.written_rows

pub returns-clause-wrong_certificates : goal.returns-clause-wrong_certificates
returns-clause-wrong_certificates c = row.wrong_certificates

pub returns-clause-forged_layers : goal.returns-clause-forged_layers
returns-clause-forged_layers c = row.forged_layers

pub returns-clause-other_versions : goal.returns-clause-other_versions
returns-clause-other_versions c = row.other_versions
