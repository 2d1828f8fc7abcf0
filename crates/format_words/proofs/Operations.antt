-- What words are names of operations.
use Rattle.std.proofs.Common.{◌≡◌, ℕ, suc, ◌+◌, ◌<◌, ◌==◌, Bool, true, false, ltb, cond, nat_le, List, []}
use Rattle.std.proofs.Common.{◌∷◌, ◌++◌, length, take, drop, position, decimal, Some, None, refl, ap, ◌∙◌}
use Rattle.std.proofs.Common.{subst, arith, add-one, length-append}
use Rattle.std.specs.List.{position_or_len}
use Rattle.std.proofs.Math.Numerals.{one-add}
use Rattle.std.proofs.lemmas.Option.{cond_some}
use Rattle.std.proofs.lemmas.List.Elements.{All-head, All-tail, All-cons}
use Rattle.std.proofs.lemmas.Bool.{leb-true, le-leb}
use Rattle.std.proofs.lemmas.Bool.Decides.{Decides-ltb, nat_tests}
use Rattle.events.specs.Names.{NameBytes, IsName}
use Rattle.events.specs.Operation.{Operation}
use Rattle.specification.specs.Lines.{operation_text}
use Rattle.specification.specs.CertificateText.{IsOperationName}
use Rattle.format_words.specs.Words.{Word}
use Rattle.format_words.specs.Reading.{◌>>=◌, number_of, operation_of, operation_at, name_of, name_at}
use Rattle.format_words.proofs.Bytes.{Lacks, lacks-number, lacks-both}
use Rattle.format_words.proofs.FirstLine.{parts-at}
use Rattle.format_words.proofs.NameWords.{name-is, name_of-name}
use Rattle.format_words.proofs.Numbers.{number_of-is, number_of-decimal}
use Rattle.format_words.proofs.WordsBack.{bind-some, read-first}

abbrev is_dot : ℕ → Bool
is_dot b = b == 46

-- the first dot stands after what has none
first-dot : (front back : List ℕ) → Lacks 46 front → position_or_len is_dot (front ++ 46 ∷ back)
    ≡ length front
first-dot [] back h = refl
first-dot (b ∷ front) back h =
    let other : (b == 46) ≡ false = All-head (λ b. (b == 46) ≡ false) b front h in
    rw other (ap (λ n. 1 + n) (first-dot front back (All-tail (λ b. (b == 46) ≡ false) b front h))
    ∙ one-add (length front))

take-front : (front back : List ℕ) → take (length front) (front ++ back) ≡ front
take-front [] back = refl
take-front (b ∷ front) back = ap (λ l. b ∷ l) (take-front front back)

drop-behind : (front back : List ℕ) (b : ℕ) → drop (suc (length front)) (front ++ b ∷ back) ≡ back
drop-behind [] back b = refl
drop-behind (a ∷ front) back b = drop-behind front back b

dot-at : (front back : List ℕ) → Lacks 46 front → position is_dot (front ++ 46 ∷ back) ≡ Some (length front)
dot-at front back h =
    let place = first-dot front back h in
    let within : ltb (length front) (length (front ++ 46 ∷ back)) ≡ true =
    (Decides-ltb (length front) (length (front ++ 46 ∷ back))).1
    (omega (arith, length-append front (46 ∷ back))) in
    rw (place, within) refl

-- the word that names an operation is read as that operation
pub operation-again : (o : Operation) → IsOperationName o → operation_of (operation_text o) ≡ Some o
unfolding operation_of
operation-again o h =
    let front : List ℕ = decimal o.replica in
    let back : List ℕ = decimal o.n in
    let dot = dot-at front back (lacks-number 46 o.replica (omega arith) h.0) in
    let behind : drop (length front + 1) (front ++ 46 ∷ back) ≡ back =
    ap (λ k. drop k (front ++ 46 ∷ back)) (add-one (length front)) ∙ drop-behind front back 46 in
    rw (
      dot,
      take-front front (46 ∷ back),
      behind,
      number_of-decimal o.replica h.0,
      number_of-decimal o.n h.2,
      le-leb 1 o.n h.1,
    ) refl

-- and no other word is
pub operation-is : (w : Word) (o : Operation) → operation_of w ≡ Some o
    → IsOperationName o × (w ≡ operation_text o)
unfolding operation_of
operation-is w o e =
    let dot =
    bind-some (position is_dot w) (λ dot. number_of (take dot w) >>=
    λ replica. number_of (drop (dot + 1) w) >>= λ n. cond (nat_le 1 n)
    (Some (record { replica = replica; n = n })) None) o e in
    let replica =
    bind-some (number_of (take dot.0 w)) (λ replica. number_of (drop (dot.0 + 1) w) >>=
    λ n. cond (nat_le 1 n) (Some (record { replica = replica; n = n })) None) o dot.2 in
    let n = bind-some (number_of (drop (dot.0 + 1) w))
    (λ n. cond (nat_le 1 n) (Some (record { replica = replica.0; n = n })) None) o replica.2 in
    let made = cond_some (nat_le 1 n.0) (record { replica = replica.0; n = n.0 }) o n.2 in
    let front = number_of-is (take dot.0 w) replica.0 replica.1 in
    let back = number_of-is (drop (dot.0 + 1) w) n.0 n.1 in
    let text : w ≡ decimal replica.0 ++ 46 ∷ decimal n.0 = (parts-at 46 w dot.0 dot.1).1
    ∙ ap (λ l. l ++ 46 ∷ drop (dot.0 + 1) w) front.0 ∙ ap (λ l. decimal replica.0 ++ 46 ∷ l) back.0 in
    (subst IsOperationName made.1 (front.1, leb-true 1 n.0 made.0, back.1), text ∙ ap operation_text made.1)

pub operation-at-is : (ws : List Word) (o : Operation) (more : List Word) → operation_at ws ≡ Some (o, more)
    → IsOperationName o × (ws ≡ operation_text o ∷ more)
unfolding operation_at
operation-at-is [] o more e = absurd (cc)
operation-at-is (w ∷ ws) o more e =
    let p = read-first operation_of w ws o more e in
    let is = operation-is w o p.0 in
    (is.0, ap (λ v. v ∷ ws) is.1 ∙ ap (λ l. operation_text o ∷ l) p.1)

pub operation-at-again : (o : Operation) (ws : List Word) → IsOperationName o
    → operation_at (operation_text o ∷ ws) ≡ Some (o, ws)
unfolding operation_at
operation-at-again o ws h = rw (operation-again o h) refl

pub name-at-is : (ws : List Word) (a : NameBytes) (more : List Word) → name_at ws ≡ Some (a, more)
    → IsName a × (ws ≡ a ∷ more)
unfolding name_at
name-at-is [] a more e = absurd (cc)
name-at-is (w ∷ ws) a more e =
    let p = read-first name_of w ws a more e in
    let is = name-is w a p.0 in
    (is.1, ap (λ v. v ∷ ws) is.0 ∙ ap (λ l. a ∷ l) p.1)

pub name-at-again : (a : NameBytes) (ws : List Word) → IsName a → name_at (a ∷ ws) ≡ Some (a, ws)
unfolding name_at
name-at-again a ws h = rw (name_of-name a h) refl

pub lacks-operation : (c : ℕ) (o : Operation) → c < 46 → IsOperationName o → Lacks c (operation_text o)
lacks-operation c o low h =
    let other : (46 == c) ≡ false = grind (arith, nat_tests) in
    lacks-both c (decimal o.replica) (46 ∷ decimal o.n) (lacks-number c o.replica (omega arith) h.0)
    (All-cons (λ b. (b == c) ≡ false) 46 (decimal o.n) other (lacks-number c o.n (omega arith) h.2))
