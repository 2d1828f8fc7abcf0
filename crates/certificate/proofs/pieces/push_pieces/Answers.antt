use Rattle.std.proofs.Common.{◌≡◌, ◌≢◌, ℕ, ◌+◌, ◌*◌, ◌<◌, [], Vec, Global, take, drop, sym, ap, subst, ◌∙◌}
use Rattle.std.proofs.Common.{arith}
use Rattle.std.specs.Prelude.{IfOk, Result, Ok, slice_index_or}
use Rattle.events.specs.declared.memory.Memory.{Memory}
use Rattle.certificate.specs.ByRows.{AppendsRows, joined}
use Rattle.certificate.proofs.RowLines.{no_rows, piece_in, piece_left, piece_there, rows_next_from, slot_of}
use Rattle.certificate.proofs.RowLines.{text_added}
use Rattle.certificate.proofs.pieces.push_pieces.Goals as goal

pub loop-piece-init : goal.loop-piece-init
loop-piece-init c = record {
  slots = c.requires.slots;
  added = no_rows c.args.graph.now c.args.k (joined c.args.texts.now.items);
  left = λ i d lt _. c.requires.pieces i d lt;
}

pub loop-piece-preserved : goal.loop-piece-preserved
loop-piece-preserved c =
    let v = c.args.graph.now in
    let k = c.args.k in
    let piece : ℕ = c.loop-piece.piece in
    let lt : piece < 512 = omega (arith, c.loop-piece-test.true) in
    let text = c.in_ok-text.text in
    let slot_is : Ok text ≡ slice_index_or c.loop-piece.made (slot_of piece) (Ok text) =
    c.in_ok-text.ensures.piece (Ok text) in
    let lines : AppendsRows v k (take 10 (drop (c.args.first + 10 * piece) v.elements)) [] text.items =
    subst (λ (r : Result (Vec ℕ Global) Memory). IfOk r (λ (t : Vec ℕ Global). AppendsRows v k
    (take 10 (drop (c.args.first + 10 * piece) v.elements)) [] t.items)) (sym slot_is)
    (piece_left v k c.args.first piece c.loop-piece.made (Ok text) c.loop-piece.invariant.left
    c.loop-piece.invariant.slots lt) in
    let next : 10 * piece + 10 ≡ 10 * (piece + 1) = omega arith in
    record {
      slots = c.in_ok-text.ensures.slots ∙ c.loop-piece.invariant.slots;
      added = subst (λ n. AppendsRows v k (take n (drop c.args.first v.elements))
          (joined c.args.texts.now.items) (joined c.push.new.self.items)) next
          (rows_next_from v k c.args.first (10 * piece) 10 (joined c.args.texts.now.items)
          (joined c.loop-piece.texts.items) (joined c.push.new.self.items) c.loop-piece.invariant.added
          (text_added v k _ c.loop-piece.texts.items c.push.new.self.items text lines
          c.in_ok-push.ensures.items));
      left = λ i d within later.
          let other : i ≢ slot_of piece =
          λ same. omega (arith, ap piece_in same, piece_there piece lt, later) in
          subst (λ (r : Result (Vec ℕ Global) Memory). IfOk r
          (λ (t : Vec ℕ Global). AppendsRows v k
          (take 10 (drop (c.args.first + 10 * piece_in i) v.elements)) [] t.items))
          (sym (c.in_ok-text.ensures.others i d other))
          (c.loop-piece.invariant.left i d (omega (arith, within, c.in_ok-text.ensures.slots))
          (omega (arith, later)));
    }

pub returns : goal.returns
returns c =
    let done : 10 * c.loop-piece.piece ≡ 5120 = omega arith in
    subst (λ n. AppendsRows c.args.graph.now c.args.k (take n (drop c.args.first c.args.graph.now.elements))
    (joined c.args.texts.now.items) (joined c.loop-piece.texts.items)) done c.loop-piece.invariant.added
