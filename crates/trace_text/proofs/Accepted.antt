-- Each entry of a legal recording was accepted after the entries before it.
use Rattle.std.proofs.Common.{◌≡◌, ℕ, ◌+◌, ◌<◌, ◌≤◌, Bool, true, false, cond, ◌&&◌, ◌||◌, ◌==◌, nat_le}
use Rattle.std.proofs.Common.{nat_lt, List, [], ◌∷◌, ◌++◌, length, get_or, None, refl, sym, ap, ◌∙◌, subst}
use Rattle.std.proofs.Common.{arith, length-append}
use Rattle.std.specs.Prelude.{count_by, sum_by}
use Rattle.std.proofs.lemmas.Bool.{lt-leb, le-ltb, ne_eqb}
use Rattle.std.proofs.lemmas.List.{append_assoc, get_or_at}
use Rattle.std.proofs.lemmas.List.Sums.{sum_by-append, sum_by-cons}
use Rattle.events.specs.Operation.{Operation}
use Rattle.events.specs.History.{History, IsLegal, KeepsLimits, IsInOrder, stream_of, count_of, response_of}
use Rattle.events.specs.History.{is_insert}
use Rattle.events.specs.Session.{first_refusal, received, passes}
use Rattle.events.specs.declared.TheConstants.{MOST_ENTRIES, MOST_INSERTS, MOST_NAMES, MOST_PLACES}
use Rattle.events.specs.declared.entry.Entry.{Entry}
use Rattle.events.specs.declared.entry.Body.{Body}
use Rattle.events.specs.declared.entry.Body.TheVariants.{Ins, Del, Read, View, Recv}
use Rattle.events.proofs.Streams.{stream_of-append, stream_of-own}

passes-none : (test : Operation → Bool) (b : Body) → ((seen : Operation) → b ≡ Recv seen → test seen ≡ false)
    → passes test (received b) ≡ false
passes-none test (Ins name at response) h = refl
passes-none test (Del name response) h = refl
passes-none test (Read response) h = refl
passes-none test (View response) h = refl
passes-none test (Recv seen) h = h seen refl

neither : (a b : Bool) → a ≡ false → b ≡ false → (a || b) ≡ false
neither a b h k = rw (h, k) refl

-- the replica's stream, about the entry
stream-about : (r : ℕ) (earlier later : List Entry) (e : Entry) → e.replica ≡ r
    → stream_of r (earlier ++ e ∷ later) ≡ stream_of r earlier ++ e.body ∷ stream_of r later
stream-about r earlier later e own =
    ap (stream_of r) (sym (append_assoc earlier (e ∷ []) later))
    ∙ stream_of-append r (earlier ++ e ∷ []) later
    ∙ ap (λ l. l ++ stream_of r later) (stream_of-own r earlier e own)
    ∙ append_assoc (stream_of r earlier) (e.body ∷ []) (stream_of r later)

-- one body of a stream that keeps the limits found them unspent
few-entries : (before after : List Body) (b : Body) → KeepsLimits (before ++ b ∷ after)
    → nat_le MOST_ENTRIES (length before) ≡ false
few-entries before after b h =
    lt-leb MOST_ENTRIES (length before) (omega (arith, h.entries, length-append before (b ∷ after)))

few-inserts : (t : Bool) (before after : ℕ) → before + (cond t 1 0 + after) ≤ MOST_INSERTS
    → (t && nat_le MOST_INSERTS before) ≡ false
few-inserts true before after h = lt-leb MOST_INSERTS before (omega arith)
few-inserts false before after h = refl

sums : (f : Body → ℕ) (before after : List Body) (b : Body) → sum_by f (before ++ b ∷ after)
    ≡ sum_by f before + (f b + sum_by f after)
sums f before after b =
    sum_by-append f before (b ∷ after) ∙ ap (λ n. sum_by f before + n) (sum_by-cons f b after)

inserts-unspent : (before after : List Body) (b : Body) → KeepsLimits (before ++ b ∷ after)
    → (is_insert b && nat_le MOST_INSERTS (count_by is_insert before)) ≡ false
inserts-unspent before after b h =
    few-inserts (is_insert b) (count_by is_insert before) (count_by is_insert after)
    (subst (λ (n : ℕ). n ≤ MOST_INSERTS) (sums (λ b. cond (is_insert b) 1 0) before after b) h.inserts)

short-response : (before after : List Body) (b : Body) → KeepsLimits (before ++ b ∷ after)
    → nat_lt MOST_NAMES (length (response_of b)) ≡ false
short-response before after b h =
    let here : length before < length (before ++ b ∷ after) =
    omega (arith, length-append before (b ∷ after)) in
    le-ltb MOST_NAMES (length (response_of b)) (subst (λ (c : Body). length (response_of c) ≤ MOST_NAMES)
    (get_or_at before b after b (length before) refl) (h.names (length before) b here))

places-unspent : (before after : List Body) (b : Body) → KeepsLimits (before ++ b ∷ after)
    → nat_lt MOST_PLACES (sum_by (λ b. length (response_of b)) before + length (response_of b)) ≡ false
places-unspent before after b h =
    let all =
    subst (λ (n : ℕ). n ≤ MOST_PLACES) (sums (λ b. length (response_of b)) before after b) h.places in
    le-ltb MOST_PLACES (sum_by (λ b. length (response_of b)) before + length (response_of b)) (omega arith)

pub accepted : (h : History) (earlier later : List Entry) (e : Entry) → IsLegal h
    → h.entries ≡ earlier ++ e ∷ later → first_refusal h.replicas earlier e ≡ None
accepted h earlier later e legal is =
    let r : ℕ = e.replica in
    let here : length earlier < length h.entries =
    omega (arith, ap length is, length-append earlier (e ∷ later)) in
    let element : get_or h.entries (length earlier) e ≡ e =
    ap (λ l. get_or l (length earlier) e) is ∙ get_or_at earlier e later e (length earlier) refl in
    let known : r < h.replicas =
    subst (λ (d : Entry). d.replica < h.replicas) element (legal.replica_known (length earlier) e here) in
    let in_order : IsInOrder h.replicas earlier e = legal.receipts earlier later e is in
    let limits : KeepsLimits (stream_of r earlier ++ e.body ∷ stream_of r later) =
    subst KeepsLimits (ap (stream_of r) is ∙ stream-about r earlier later e refl) (legal.limits r) in
    let no_replica =
    neither (nat_le h.replicas r) (passes (λ o. nat_le h.replicas o.replica) (received e.body))
    (lt-leb h.replicas r known)
    (passes-none (λ o. nat_le h.replicas o.replica) e.body
    (λ seen b. lt-leb h.replicas seen.replica (in_order seen b).0)) in
    let own =
    passes-none (λ o. o.replica == r) e.body (λ seen b. ne_eqb seen.replica r (in_order seen b).1) in
    let not_yet =
    passes-none (λ o. nat_lt (count_of o.replica earlier) o.n) e.body
    (λ seen b. le-ltb (count_of seen.replica earlier) seen.n (in_order seen b).2) in
    rw (
      no_replica,
      own,
      not_yet,
      few-entries (stream_of r earlier) (stream_of r later) e.body limits,
      inserts-unspent (stream_of r earlier) (stream_of r later) e.body limits,
      short-response (stream_of r earlier) (stream_of r later) e.body limits,
      places-unspent (stream_of r earlier) (stream_of r later) e.body limits,
    ) refl
