use Rattle.std.proofs.Common.{arith}
use Rattle.format_words.proofs.Numbers.{one-digit-more, room-for-digit, all-digits}
use Rattle.format_words.proofs.fields.value_of.Goals as goal

pub returns-then-not-is_ascii_digit : goal.returns-then-not-is_ascii_digit
returns-then-not-is_ascii_digit c =
    all-digits c.args.digits.now c.loop-byte.byte-index c.loop-byte-test.true
    c.if-not-is_ascii_digit.ensures.cases

pub overflow_mul-value : goal.overflow_mul-value
overflow_mul-value c =
    let room =
    room-for-digit c.args.digits.now c.loop-byte.byte-index c.loop-byte.value c.loop-byte-test.true
    c.requires c.loop-byte.invariant in
    omega (arith, room)

pub overflow_add-value : goal.overflow_add-value
overflow_add-value c =
    let room =
    room-for-digit c.args.digits.now c.loop-byte.byte-index c.loop-byte.value c.loop-byte-test.true
    c.requires c.loop-byte.invariant in
    let range = c.if-not-is_ascii_digit.ensures.cases in
    omega (arith, room, c.from.ensures, range.1)

pub loop-byte-preserved : goal.loop-byte-preserved
loop-byte-preserved c =
    one-digit-more c.args.digits.now c.loop-byte.byte-index c.loop-byte.value c.from.result
    c.loop-byte-test.true c.if-not-is_ascii_digit.ensures.cases c.from.ensures c.loop-byte.invariant
