-- What workers over one bound leave: a claim, an offer, a seat taken in, and the end.
use Rattle.std.proofs.Common.{◌≡◌, ℕ, zero, suc, ◌+◌, ◌-◌, ◌<◌, ◌≤◌, max, List, [], ◌∷◌, ◌++◌}
use Rattle.std.proofs.Common.{length, get_or, sym, refl, ap, arith, All, subst, le_trans, ◌∙◌, ◌⊎◌, inl, inr}
use Rattle.std.proofs.Common.{Option, Some, min, take, drop, true, false, length-append, IsPermutation}
use Rattle.std.proofs.lemmas.List.{append-nil}
use Rattle.std.specs.List.{range_with_len}
use Rattle.std.proofs.lemmas.List.Sorted.{All-permutation, IsPermutation-sym, length_permutation}
use Rattle.std.proofs.lemmas.List.FromFn.{get_or-range_with_len, length-range_with_len}
use Rattle.std.proofs.lemmas.List.Elements.{All-nil, All-cons, All-head, All-tail, All-push, All-append}
use Rattle.std.proofs.lemmas.Bool.{cases_lt}
use Rattle.std.proofs.lemmas.Grind.{get_or_default_zero}
use Rattle.std.specs.Prelude.{Contains, slice_index}
use Rattle.shared_bound.specs.Seats.{SeatView, BoundView}
use Rattle.shared_bound.specs.Bound.{BoundState, BoundCall, IsRun, offers}
use Rattle.specification.specs.Search.{IsCycleLength}
use Rattle.specification.specs.Responses.{Responses, AreProper}
use Rattle.order_graph.specs.Lists.{lists_of}
use Rattle.list_search.specs.Walks.{IsSearchAnswer, NoneShorter}
use Rattle.level_search.specs.BoundLaw.{CoversAllSources, IsAsLongThrough, MeetEachCycle}
use Rattle.level_search.proofs.LeastOffer.{least_offer_is_shortest}
use Rattle.level_search.proofs.Counts.{counted-together, counts-append, counts-lower, counts-one}
use Rattle.level_search.proofs.LayerSizes.{looked-more}
use Rattle.level_search.specs.Sources.{MeetsCycles}
use Rattle.level_search.specs.Team.{AreNumbered, IsSearchedAt, IsLength, Honest, IsReady, SameSeat, HasWorked}
use Rattle.level_search.specs.Team.{HaveWorked, AreLooksOfClaims, ceiling, AtPlace, IsTeam, IsLeastLength}
use Rattle.level_search.specs.Looks.{AreCountsAt, HasLookedBy, IsAnswerFrom, with_answer}
use Rattle.level_search.specs.declared.tabled.sets.Sets.{Sets}
use Rattle.level_search.specs.declared.workers.worker.Worker.{Worker}
use Rattle.list_search.proofs.Joining.{cycle-known, first-walk, names_of_walk, walk_of_names}

ceiling-append : (xs : List ℕ) (y : ℕ) → ceiling (xs ++ y ∷ []) ≡ max (y + 1) (ceiling xs)
ceiling-append [] y = omega arith
ceiling-append (x ∷ xs) y = let h = ceiling-append xs y in omega arith

ceiling_le : (n : ℕ) (xs : List ℕ) → All (λ x. x < n) xs → ceiling xs ≤ n
ceiling_le n [] h = omega arith
ceiling_le n (x ∷ xs) h = let a = All-head (λ y. y < n) x xs h in
    let b = ceiling_le n xs (All-tail (λ y. y < n) x xs h) in omega arith

-- a claim above all earlier ones leaves fewer to come
pub fewer : (n place : ℕ) (claimed : List ℕ) → place < n → All (λ x. x < place) claimed
    → n - ceiling (claimed ++ place ∷ []) < n - ceiling claimed
fewer n place claimed less above = let a = ceiling-append claimed place in
    let b = ceiling_le place claimed above in omega arith

all_below : (rows : List (List ℕ)) (sources : List ℕ) (low low' : ℕ) (xs : List ℕ) → low' ≤ low
    → All (IsSearchedAt rows sources low) xs → All (IsSearchedAt rows sources low') xs
all_below rows sources low low' xs less all = λ k d within n cycle. le_trans less (all k d within n cycle)

-- a search that finds a length, which is offered, or finds none
pub searched_some : (rows : List (List ℕ)) (s m bound low : ℕ) → IsSearchAnswer rows s bound (Some m)
    → low ≤ m → NoneShorter rows s low
searched_some rows s m bound low answer less = λ n cycle. le_trans less (answer.0.shortest n cycle)

-- a claim, and a search from what was claimed
pub claimed_one : (rows : List (List ℕ)) (sources : List ℕ) (s t : SeatView) (place : ℕ)
    → Honest rows sources s → t.claimed ≡ s.claimed ++ place ∷ [] → All (IsLength rows) t.offered
    → t.low ≤ s.low
    → IsSearchedAt rows sources t.low place → Honest rows sources t
claimed_one rows sources s t place h claimed offers less searched = record {
  known = le_trans less h.known;
  offers = offers;
  claims =
      subst (All (IsSearchedAt rows sources t.low)) (sym claimed)
      (All-push (IsSearchedAt rows sources t.low) s.claimed place
      (all_below rows sources s.low t.low s.claimed less h.claims) searched);
}

-- a claim, and then a search that may offer
pub claimed_then : (s c t : SeatView) (source : ℕ) → c ≡ record s { claimed = s.claimed ++ source ∷ [] }
    → t ≡ record c { offered = t.offered; low = t.low }
    → (t.claimed ≡ s.claimed ++ source ∷ []) × (c.offered ≡ s.offered) × (c.low ≡ s.low) × SameSeat s t
claimed_then s c t source one two = (
  ap (λ (a : SeatView). a.claimed) two ∙ ap (λ (a : SeatView). a.claimed) one,
  ap (λ (a : SeatView). a.offered) one,
  ap (λ (a : SeatView). a.low) one,
  (
    ap (λ (a : SeatView). a.bound) two ∙ ap (λ (a : SeatView). a.bound) one,
    ap (λ (a : SeatView). a.is_first) two ∙ ap (λ (a : SeatView). a.is_first) one,
    ap (λ (a : SeatView). a.out) two ∙ ap (λ (a : SeatView). a.out) one,
  ),
)

-- there are fewer sources left
pub fewer_left : (s t : SeatView) (source : ℕ) → t.bound ≡ s.bound → t.claimed ≡ s.claimed ++ source ∷ []
    → source < s.bound.sources → All (λ x. x < source) s.claimed
    → t.bound.sources - ceiling t.claimed < s.bound.sources - ceiling s.claimed
fewer_left s t source bound claimed within above =
    subst (λ (z : BoundView × List ℕ). z.0.sources - ceiling z.1 < s.bound.sources - ceiling s.claimed)
    (λ i. (sym bound i, sym claimed i)) (fewer s.bound.sources source s.claimed within above)

-- claims and offers that are these
of_lists : (n : ℕ) (rows : List (List ℕ)) (low : ℕ) (sources xs xs' ys ys' : List ℕ) (count : ℕ) → xs' ≡ xs
    → ys' ≡ ys → AreCountsAt n rows low sources xs ys count → AreCountsAt n rows low sources xs' ys' count
of_lists n rows low sources xs xs' ys ys' count same same' are =
    subst (λ (l : List ℕ). AreCountsAt n rows low sources l ys' count) (sym same)
    (subst (λ (l : List ℕ). AreCountsAt n rows low sources xs l count) (sym same') are)

-- a claim, and the looks of a search from what was claimed
pub looks_claimed : (n : ℕ) (rows : List (List ℕ)) (sources : List ℕ) (s t : SeatView) (place was now : ℕ)
    (sets : Sets) (answer : Option ℕ) → t.claimed ≡ s.claimed ++ place ∷ []
    → t.offered ≡ s.offered ++ with_answer answer [] → t.low ≤ s.low
    → AreLooksOfClaims n rows sources s was → IsAnswerFrom rows (slice_index sources place) t.low answer
    → HasLookedBy n rows (slice_index sources place) t.low sets answer was now
    → AreLooksOfClaims n rows sources t now
looks_claimed n rows sources s t place was now sets answer claimed offered less are from more = (
  are.0 + more.0,
  of_lists n rows t.low sources (s.claimed ++ place ∷ []) t.claimed (s.offered ++ with_answer answer [])
      t.offered (are.0 + more.0) claimed offered
      (counts-append n rows t.low sources s.claimed (place ∷ []) s.offered (with_answer answer []) are.0 more.0
      (counts-lower n rows s.low t.low sources s.claimed s.offered are.0 less are.1)
      (counts-one n rows t.low sources place sets answer more.0 from more.1)),
  looked-more are.0 more.0 0 was now are.2 more.2,
)

-- the looks of two seats together
pub looks_taken_in : (n : ℕ) (rows : List (List ℕ)) (sources : List ℕ) (s o t : SeatView)
    (mine others all : ℕ) → t.claimed ≡ s.claimed ++ o.claimed → t.offered ≡ s.offered ++ o.offered
    → t.low ≤ s.low → t.low ≤ o.low
    → AreLooksOfClaims n rows sources s mine → AreLooksOfClaims n rows sources o others
    → all ≡ min (mine + others) 18446744073709551615 → AreLooksOfClaims n rows sources t all
looks_taken_in n rows sources s o t mine others all claimed offered less less' are are' sum = (
  are.0 + are'.0,
  of_lists n rows t.low sources (s.claimed ++ o.claimed) t.claimed (s.offered ++ o.offered) t.offered
      (are.0 + are'.0) claimed offered
      (counts-append n rows t.low sources s.claimed o.claimed s.offered o.offered are.0 are'.0
      (counts-lower n rows s.low t.low sources s.claimed s.offered are.0 less are.1)
      (counts-lower n rows o.low t.low sources o.claimed o.offered are'.0 less' are'.1)),
  counted-together are.0 are'.0 mine others all are.2 are'.2 sum,
)

-- the last look, which finds no place
pub finished : (rows : List (List ℕ)) (sources : List ℕ) (s t : SeatView) → t ≡ record s { done = true }
    → Honest rows sources s → Honest rows sources t
finished rows sources s t e h =
    subst (Honest rows sources) (sym e) (record { known = h.known; offers = h.offers; claims = h.claims })

-- the first seat, with what another did
pub taken_in : (rows : List (List ℕ)) (sources : List ℕ) (s o t : SeatView) → Honest rows sources s
    → Honest rows sources o → t.claimed ≡ s.claimed ++ o.claimed → t.offered ≡ s.offered ++ o.offered
    → t.low ≤ s.low → t.low ≤ o.low
    → Honest rows sources t
taken_in rows sources s o t h k claimed offered low low' = record {
  known = le_trans low h.known;
  offers =
      subst (All (IsLength rows)) (sym offered)
      (All-append (IsLength rows) s.offered o.offered h.offers k.offers);
  claims = subst (All (IsSearchedAt rows sources t.low)) (sym claimed)
      (All-append (IsSearchedAt rows sources t.low) s.claimed o.claimed
      (all_below rows sources s.low t.low s.claimed low h.claims)
      (all_below rows sources o.low t.low o.claimed low' k.claims));
}

pub all_front : {X : Type 0} (P : X → Type 0) (xs : List X) (x : X) → All P (xs ++ x ∷ []) → All P xs × P x
all_front P [] x h = (All-nil P, All-head P x [] h)
all_front P (y ∷ ys) x h = let r = all_front P ys x (All-tail P y (ys ++ x ∷ []) h) in
    (All-cons P y ys (All-head P y (ys ++ x ∷ []) h) r.0, r.1)

-- every source below n was claimed
all_claimed : (P : ℕ → Type 0) (n : ℕ) (claimed : List ℕ) → IsPermutation (range_with_len 0 n) claimed
    → All P claimed → (k : ℕ) → k < n → P k
all_claimed P n claimed same h k less =
    let back =
    All-permutation P claimed (range_with_len 0 n) (IsPermutation-sym (range_with_len 0 n) claimed same)
    h in
    subst P (get_or-range_with_len 0 n k 0 less ∙ omega arith)
    (back k 0 (subst (λ (m : ℕ). k < m) (sym (length-range_with_len 0 n)) less))

-- the place of a number in a list
place_of : (xs : List ℕ) (x : ℕ) → Contains xs x → (i : ℕ) × (i < length xs) × (get_or xs i 0 ≡ x)
place_of xs x inside = (inside.0, inside.1, sym (get_or_default_zero xs inside.0 x inside.1) ∙ inside.2)

-- the cycles through sources are as long as any, told by names
pub met : (v : Responses) (proper : AreProper v) (sources : List ℕ)
    → MeetsCycles (lists_of v) (length v.elements) sources → MeetEachCycle v sources
met v proper sources meets cycle is =
    let walk = first-walk v proper cycle is in
    let t = meets walk.0 (length cycle) walk.1 walk.2 in
    let at = place_of sources t.0 t.1 in
    let named =
    names_of_walk v proper t.0 (length cycle) (cycle-known v proper t.0 (length cycle) t.2) t.2 in (
      at.0,
      at.1,
      subst (IsAsLongThrough v cycle) (sym at.2) (record {
        other = named.0;
        through = named.1;
        long = named.2;
      }),
    )

-- a length told by numbers is one told by names
length-named : (v : Responses) → AreProper v → (m : ℕ) → IsLength (lists_of v) m → IsCycleLength v m
length-named v proper m found =
    let named = names_of_walk v proper found.0 m (cycle-known v proper found.0 m found.1) found.1 in
    (named.0, named.1.is_cycle, named.2)

-- what all workers together found: each cycle leads through a source, and each source was searched from
module _ (v : Responses) (proper : AreProper v) (sources : List ℕ) (n m : ℕ) (s : SeatView)
    (calls : List BoundCall) (count : n ≡ length sources)
    (meets : MeetsCycles (lists_of v) (length v.elements) sources) (low : m ≤ s.low)
    (h : Honest (lists_of v) sources s) (same : IsPermutation (range_with_len 0 n) s.claimed)
    (run : IsRun (length sources) s.claimed s.offered m calls) where
  told : All (IsLength (lists_of v)) (offers calls)
  told = All-permutation (IsLength (lists_of v)) s.offered (offers calls)
      (IsPermutation-sym (offers calls) s.offered run.told) h.offers

  covered : CoversAllSources v sources calls
  covered = record {
    met = met v proper sources meets;
    offered = λ k d within. length-named v proper (get_or (offers calls) k d) (told k d within);
    given = ap (λ (b : BoundState). b.given) run.leads
        ∙ (length_permutation (range_with_len 0 n) s.claimed same ∙ (length-range_with_len 0 n ∙ count));
    searched = λ place within. (
      s.low,
      inr (inr (subst (λ (b : BoundState). b.least ≤ s.low) (sym run.leads) low)),
      λ cycle through. all_claimed (IsSearchedAt (lists_of v) sources s.low) n s.claimed same h.claims place
          (omega arith) (length cycle) (walk_of_names v proper (slice_index sources place) cycle through),
    );
  }

  -- so the answer at the end is the length of a shortest cycle, or there is none
  pub settled : IsLeastLength v m
  settled =
      subst (IsLeastLength v) (ap (λ (b : BoundState). b.least) run.leads)
      (least_offer_is_shortest v sources calls proper covered)

drop_whole : {X : Type 0} (n : ℕ) (xs : List X) → length xs ≤ n → drop n xs ≡ []
drop_whole zero [] h = refl
drop_whole zero (x ∷ xs) h = absurd (omega arith)
drop_whole (suc n) [] h = refl
drop_whole (suc n) (x ∷ xs) h = drop_whole n xs (omega arith)

take_whole : {X : Type 0} (n : ℕ) (xs : List X) → length xs ≤ n → take n xs ≡ xs
take_whole zero [] h = refl
take_whole zero (x ∷ xs) h = absurd (omega arith)
take_whole (suc n) [] h = refl
take_whole (suc n) (x ∷ xs) h = ap (λ (l : List _). x ∷ l) (take_whole n xs (omega arith))

-- a `Vec` after all of it was lent and written
pub written : {X : Type 0} (n : ℕ) (old new : List X) → length new ≡ length old → n ≡ length old
    → take n (new ++ drop (length new) old) ≡ new
written {X} n old new same whole =
    ap (λ (l : List X). take n (new ++ l)) (drop_whole (length new) old (omega arith))
    ∙ (ap (take n) (append-nil new) ∙ take_whole n new (omega arith))

-- a team at its places, once its work is done
at_place : (b : BoundView) (v : Responses) (sources : List ℕ) (m k : ℕ) (old new : Worker)
    → AtPlace b v sources m k old → HasWorked v sources old new → AtPlace b v sources m k new
at_place b v sources m k old new at worked = record {
  bound = worked.same.0 ∙ at.bound;
  ready = worked.ready;
  other = λ less. (worked.same.1 ∙ (at.other less).0, worked.number ∙ (at.other less).1);
  first = λ e. (
    worked.same.1 ∙ (at.first e).0,
    worked.same.2 ∙ (at.first e).1,
    worked.number
        ∙ (at.first e).2,
  );
}

last_at : {X : Type 0} (xs : List X) (x d : X) → get_or (xs ++ x ∷ []) (length xs) d ≡ x
last_at [] x d = refl
last_at (y ∷ ys) x d = last_at ys x d

front_at : {X : Type 0} (xs : List X) (x : X) (k : ℕ) (d : X) → k < length xs
    → get_or (xs ++ x ∷ []) k d ≡ get_or xs k d
front_at [] x k d less = absurd (omega arith)
front_at (y ∷ ys) x zero d less = refl
front_at (y ∷ ys) x (suc k) d less = front_at ys x k d (omega arith)

-- what is known of the worker with the first seat and of the others, once all work is done
abbrev pub IsFirst : BoundView → Responses → List ℕ → ℕ → Worker → Type 0
IsFirst b v sources m w =
    (w.seat.bound ≡ b) × (w.seat.is_first ≡ true) × (w.seat.out ≡ m) × (w.seat.done ≡ true)
    × Honest (lists_of v) sources w.seat
    × AreLooksOfClaims (length v.elements) (lists_of v) sources w.seat w.looked

abbrev pub IsOther : BoundView → Responses → List ℕ → Worker → Type 0
IsOther b v sources w = (w.seat.bound ≡ b) × (w.seat.is_first ≡ false) × Honest (lists_of v) sources w.seat
    × AreLooksOfClaims (length v.elements) (lists_of v) sources w.seat w.looked

-- the last of a team that is done, and the others
pub last_of_team : (b : BoundView) (v : Responses) (sources : List ℕ) (m : ℕ) (old front : List Worker)
    (first : Worker) → IsTeam b v sources m old → HaveWorked v sources old (front ++ first ∷ [])
    → IsFirst b v sources (length front) first × All (IsOther b v sources) front
last_of_team b v sources m old front first t worked =
    let long = length-append front (first ∷ []) in
    let size = t.0 in
    let size' = worked.0 in
    let done : HasWorked v sources (get_or old (length front) first) first =
    subst (λ (w : Worker). HasWorked v sources (get_or old (length front) first) w)
    (last_at front first first) (worked.1 (length front) first (omega arith)) in
    let at : AtPlace b v sources m (length front) first =
    at_place b v sources m (length front) (get_or old (length front) first) first
    (t.1 (length front) first (omega arith)) done in
    let mine = at.first (omega arith) in
    let out = mine.1 in (
      (at.bound, mine.0, omega arith, done.done, at.ready.honest, at.ready.looked),
      λ k d less. (
          let did : HasWorked v sources (get_or old k d) (get_or front k d) =
          subst (λ (w : Worker). HasWorked v sources (get_or old k d) w) (front_at front first k d less)
          (worked.1 k d (omega arith)) in
          let p : AtPlace b v sources m k (get_or front k d) =
          at_place b v sources m k (get_or old k d) (get_or front k d) (t.1 k d (omega arith)) did in
          (p.bound, (p.other (omega arith)).0, p.ready.honest, p.ready.looked)
          ),
    )

-- a team that was lent and has worked, and of which the last was taken out
pub taken_of_team : (b : BoundView) (v : Responses) (sources : List ℕ) (m n : ℕ)
    (old lent new front : List Worker) (first : Worker) → IsTeam b v sources m old → n ≡ length old
    → lent ≡ old
    → HaveWorked v sources lent new → take n (new ++ drop (length new) old) ≡ front ++ first ∷ []
    → IsFirst b v sources (length front) first × All (IsOther b v sources) front
taken_of_team b v sources m n old lent new front first team whole same worked taken =
    let done : HaveWorked v sources old new =
    subst (λ (l : List Worker). HaveWorked v sources l new) same worked in
    last_of_team b v sources m old front first team
    (subst (HaveWorked v sources old) (sym (written n old new done.0 whole) ∙ taken) done)

-- one more worker with the next number
pub numbered-push : (front : List Worker) (w : Worker) → AreNumbered front → w.number ≡ length front + 1
    → AreNumbered (front ++ w ∷ [])
numbered-push front w numbered next k d within = go (cases_lt k (length front))
  where
    go : (k < length front) ⊎ (length front ≤ k) → (get_or (front ++ w ∷ []) k d).number ≡ k + 1
    go (inl less) = ap (λ (o : Worker). o.number) (front_at front w k d less) ∙ numbered k d less
    go (inr above) =
        let long : length (front ++ w ∷ []) ≡ length front + 1 = length-append front (w ∷ []) in
        let last : length front ≡ k = omega (arith, long) in
        subst (λ (n : ℕ). (get_or (front ++ w ∷ []) n d).number ≡ n + 1) last
        (ap (λ (o : Worker). o.number) (last_at front w d) ∙ next)

-- a worker with the first seat completes a team
pub team_grown : (b : BoundView) (v : Responses) (sources : List ℕ) (m : ℕ) (front : List Worker) (w : Worker)
    → All (λ o. (o.seat.bound ≡ b) × (o.seat.is_first ≡ false) × IsReady v sources o) front
    → AreNumbered front → length front ≡ m
    → w.seat.bound ≡ b → w.seat.is_first ≡ true → w.seat.out ≡ m → IsReady v sources w → w.number ≡ 0
    → IsTeam b v sources m (front ++ w ∷ [])
team_grown b v sources m front w others numbered size bound first out ready number = (omega (arith, long), at)
  where
    long : length (front ++ w ∷ []) ≡ length front + 1
    long = length-append front (w ∷ [])

    at : (k : ℕ) (d : Worker) → k < length (front ++ w ∷ [])
        → AtPlace b v sources m k (get_or (front ++ w ∷ []) k d)
    at k d within = go (cases_lt k (length front))
      where
        go : (k < length front) ⊎ (length front ≤ k) → AtPlace b v sources m k (get_or (front ++ w ∷ []) k d)
        go (inl less) =
            let o = others k d less in
            subst (AtPlace b v sources m k) (sym (front_at front w k d less))
            (record {
              bound = o.0;
              ready = o.2;
              other = λ _. (o.1, numbered k d less);
              first = λ e. absurd (omega arith);
            })
        go (inr above) =
            let last : length front ≡ k = omega (arith, long) in
            let here : get_or (front ++ w ∷ []) k d ≡ w =
            subst (λ (n : ℕ). get_or (front ++ w ∷ []) n d ≡ w) last (last_at front w d) in
            subst (AtPlace b v sources m k) (sym here) (record {
              bound = bound;
              ready = ready;
              other = λ less. absurd (omega arith);
              first = λ _. (first, out, number);
            })
