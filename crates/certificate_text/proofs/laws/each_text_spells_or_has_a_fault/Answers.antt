use Rattle.certificate_text.proofs.EachText.{each-text}
use Rattle.certificate_text.proofs.laws.each_text_spells_or_has_a_fault.Goals as goal

pub returns : goal.returns
returns c = each-text
