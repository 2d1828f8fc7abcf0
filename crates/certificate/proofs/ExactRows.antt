-- Exact rows, one after the other, and the certificate of a refusal.
use Rattle.std.proofs.Common.{ℕ, zero, suc, ◌<◌, ◌≤◌, List, [], ◌∷◌, ◌++◌, refl, arith}
use Rattle.events.specs.Names.{NameBytes}
use Rattle.events.specs.History.{History}
use Rattle.specification.specs.Versions.{Version}
use Rattle.specification.specs.Responses.{Responses, responses_of}
use Rattle.specification.specs.LayerRule.{Row, row_responses}
use Rattle.specification.specs.ExactRows.{IsExactRow, AreExactRows, IsCertificateOf}
use Rattle.specification.specs.Conflict.{Step}
use Rattle.specification.specs.Verdict.{refused}
use Rattle.specification.specs.CertificateText.{gives_cycle}

-- one row more
pub exact_rows_push : (version : Version) (v : Responses) (k : ℕ) (sources : List NameBytes) (rows : List Row)
    (source : NameBytes) (row : Row)
    → AreExactRows version v k sources rows → IsExactRow (row_responses version v source) k source row
    → AreExactRows version v k (sources ++ source ∷ []) (rows ++ row ∷ [])
exact_rows_push version v k [] [] source row are is = (is, tt)
exact_rows_push version v k [] (r ∷ rows) source row are is = absurd are
exact_rows_push version v k (a ∷ sources) [] source row are is = absurd are
exact_rows_push version v k (a ∷ sources) (r ∷ rows) source row are is =
    (are.0, exact_rows_push version v k sources rows source row are.1 is)

-- the rows of some sources behind those of others
pub exact_rows_append : (version : Version) (v : Responses) (k : ℕ) (first second : List NameBytes)
    (rows more : List Row) → AreExactRows version v k first rows
    → AreExactRows version v k second more → AreExactRows version v k (first ++ second) (rows ++ more)
exact_rows_append version v k [] second [] more are also = also
exact_rows_append version v k [] second (r ∷ rows) more are also = absurd are
exact_rows_append version v k (a ∷ first) second [] more are also = absurd are
exact_rows_append version v k (a ∷ first) second (r ∷ rows) more are also =
    (are.0, exact_rows_append version v k first second rows more are.1 also)

-- the certificate of a refusal
pub certificate_of_two : (version : Version) (h : History) (k : ℕ) (steps : List Step) → 2 ≤ k → k < 3
    → IsCertificateOf version h (refused k steps) (gives_cycle k steps [])
certificate_of_two version h zero steps low high = absurd (omega arith)
certificate_of_two version h (suc zero) steps low high = absurd (omega arith)
certificate_of_two version h (suc (suc zero)) steps low high = refl
certificate_of_two version h (suc (suc (suc n))) steps low high = absurd (omega arith)

pub certificate_of_more : (version : Version) (h : History) (k : ℕ) (steps : List Step) (rows : List Row)
    → 3 ≤ k
    → AreExactRows version (responses_of h) k ((responses_of h).elements) rows
    → IsCertificateOf version h (refused k steps) (gives_cycle k steps rows)
certificate_of_more version h zero steps rows low are = absurd (omega arith)
certificate_of_more version h (suc zero) steps rows low are = absurd (omega arith)
certificate_of_more version h (suc (suc zero)) steps rows low are = absurd (omega arith)
certificate_of_more version h (suc (suc (suc n))) steps rows low are = (rows, refl, are)
