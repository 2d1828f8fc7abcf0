-- No name yet, and then one name more.
use Rattle.std.proofs.Common.{sym, ◌∙◌, ap, take, [], ◌∷◌}
use Rattle.element_numbers.specs.Keys.{key_with, key_of}
use Rattle.element_numbers.proofs.Keys.{key-none, key-more}
use Rattle.element_numbers.proofs.OneMore.{take-next}
use Rattle.element_numbers.proofs.name_key.NameKey.of.Goals as goal

pub loop-name-init : goal.loop-name-init
loop-name-init c = c.new-key.ensures ∙ key-none

pub loop-name-preserved : goal.loop-name-preserved
loop-name-preserved c =
    let k = c.loop-name.name-index in
    let xs = c.args.names.now in
    let x = c.name-item.result in
    c.add.ensures ∙ ap (λ key. key_with key x) c.loop-name.invariant ∙ sym (key-more (take k xs) (x ∷ []))
    ∙ ap key_of (sym (take-next xs k x c.loop-name-test.true c.name-item.is))
