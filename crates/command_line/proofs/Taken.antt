-- Words in which nothing is wrong name one of the program's commands, and give each word that it wants.
use Rattle.std.proofs.Common.{◌≡◌, ◌⊎◌, ◌&&◌, ◌||◌, not, ℕ, Bool, true, false, List, [], ◌∷◌, length, Option}
use Rattle.std.proofs.Common.{Some, None, Result, Ok, Err, is_some, refl, sym, ap, ◌∙◌, subst, inl, inr}
use Rattle.std.proofs.Common.{codes, cond, option_map, true≢false, arith}
use Rattle.std.specs.Prelude.{find, option_and_then, slice_get}
use Rattle.std.specs.Option.{option_map_or}
use Rattle.std.specs.Str.{bytes_eq}
use Rattle.std.proofs.lemmas.Slice.Eq.{bytes_eq-Decides}
use Rattle.clap.specs.Facts.{explicit_source, unwrap_or_range}
use Rattle.clap.specs.Walk.{Names, Row, Rule, Text, action_of, answers_to, finished, first_of, most_values}
use Rattle.clap.specs.Walk.{nothing_held, one_of, reading_by, rows_after, used_as, values_or_missing, walk}
use Rattle.clap.specs.Walk.{walk_from, without}
use Rattle.clap.specs.Simple.{App, Shape, built, built_leaf, entered, filled, help_rule, help_shape}
use Rattle.clap.specs.Simple.{inherited, marked_built, names_of, on_top, rows_at, version_rule, with_index}
use Rattle.clap.specs.Takes.{is_given}
use Rattle.clap.specs.Faults.{action_fault, check_fault, entered_fault, level_fault, settle_fault, walk_fault}
use Rattle.clap.specs.Kinds.{Kinds, check_kinds, range_kinds}
use Rattle.clap.specs.declared.builder.action.ArgAction.{ArgAction}
use Rattle.clap.specs.declared.builder.action.ArgAction.TheVariants.{Set, SetTrue, Help, Version}
use Rattle.clap.specs.declared.parser.matches.ValueSource.TheVariants.{CommandLine}
use Rattle.command_line.specs.Answers.{given_by, kinds_at}
use Rattle.command_line.specs.Commands.{cert_app, certificate_rule, file_rule, finder_app, json_rule}
use Rattle.command_line.specs.Commands.{live_app, verdict_app, verify_app, workers_rule}
use Rattle.command_line.specs.Tasks.{AsksFor, HasBadWorkers, IsAnswerToSubcommand, IsFormOf}
use Rattle.command_line.specs.Tasks.{IsAnswerWhereTaken}
use Rattle.command_line.specs.declared.task.Form.{Form}
use Rattle.command_line.specs.declared.task.Form.TheVariants.{Text as PlainText, Json}
use Rattle.command_line.specs.declared.task.Task.{Task}
use Rattle.command_line.specs.declared.task.Task.TheVariants.{Verdict, Cert, Verify, Live}
use Rattle.command_line.specs.declared.words.WordsFault.{WordsFault}
use Rattle.command_line.proofs.Filled.{AllKeep, AreFilled, IsAllowed, IsFull, KeepsFilled, StopAllowed}
use Rattle.command_line.proofs.Filled.{finished-filled, none-wrong, walk-sound, with_values-filled}
use Rattle.command_line.proofs.Filled.{without-filled}

-- ---- each argument keeps the rows filled

given-full : (a : Rule) (values : List Text) → IsFull values → IsFull (values_or_missing a values)
given-full a [] h = absurd h
given-full a (v ∷ vs) h = tt

set-keeps : (again : Bool) (a : Rule) → action_of a ≡ Set → (unwrap_or_range a.range).start_inclusive ≡ 1
    → most_values a ≡ 1 → KeepsFilled again a
set-keeps again a is least most values rows e f =
    subst (λ (x : ArgAction). AreFilled (used_as x a.id (reading_by a) (values_or_missing a values) rows))
    (sym is)
    (with_values-filled a.id (reading_by a) CommandLine (values_or_missing a values) (without a.id rows)
    (given-full a values (some values (subst (λ n. range_kinds 1 n (length values) ≡ []) most
    (subst (λ n. range_kinds n (most_values a) (length values) ≡ []) least (none-wrong _ _ e).0))))
    (without-filled a.id rows f))
  where
    some : (vs : List Text) → range_kinds 1 1 (length vs) ≡ [] → IsFull vs
    some [] bad = absurd (let wrong : 1 ≡ 0 = ap length bad in omega arith)
    some (v ∷ vs) ok = tt

flag-keeps : (again : Bool) (a : Rule) → action_of a ≡ SetTrue → IsFull a.missing → KeepsFilled again a
flag-keeps again a is some values rows e f =
    subst (λ (x : ArgAction). AreFilled (used_as x a.id (reading_by a) (values_or_missing a values) rows))
    (sym is)
    (with_values-filled a.id (reading_by a) CommandLine (values_or_missing a values) (without a.id rows)
    (full values) (without-filled a.id rows f))
  where
    full : (vs : List Text) → IsFull (values_or_missing a vs)
    full [] = some
    full (v ∷ vs) = tt

-- an action that is itself a fault keeps nothing
fault-keeps : (x : ArgAction) → ((again : Bool) (a : Rule) (values : List Text) (rows : List Row)
    → action_fault x again a values rows ≡ [] → ⊥)
    → (again : Bool) (a : Rule) → action_of a ≡ x → KeepsFilled again a
fault-keeps x asks again a is values rows e f =
    let last : action_fault (action_of a) again a (values_or_missing a values) rows ≡ [] =
    (none-wrong (range_kinds (unwrap_or_range a.range).start_inclusive (most_values a) (length values)) _
    e).1 in
    absurd (asks again a (values_or_missing a values) rows
    (subst (λ (y : ArgAction). action_fault y again a (values_or_missing a values) rows ≡ []) is last))

help-keeps : (again : Bool) (a : Rule) → action_of a ≡ Help → KeepsFilled again a
help-keeps =
    fault-keeps Help (λ again a values rows asked. let wrong : 1 ≡ 0 = ap length asked in omega arith)

version-keeps : (again : Bool) (a : Rule) → action_of a ≡ Version → KeepsFilled again a
version-keeps =
    fault-keeps Version (λ again a values rows asked. let wrong : 1 ≡ 0 = ap length asked in omega arith)

-- ---- what was given has a first value

found-full : (p : Row → Bool) (rows : List Row) → AreFilled rows → (r : Row) → find p rows ≡ Some r
    → IsFull r.values
found-full p [] f r e = absurd (let bad : None ≡ Some r = e in cc)
found-full p (x ∷ xs) f r e = go (p x) (found-full p xs f.1 r) e
  where
    go : (b : Bool) → (find p xs ≡ Some r → IsFull r.values) → cond b (Some x) (find p xs) ≡ Some r
        → IsFull r.values
    go true rest same = let is : x ≡ r = cc in subst (λ (y : Row). IsFull y.values) is f.0
    go false rest same = rest same

pub first-given : (id : Text) (rows : List Row) → AreFilled rows → is_given id rows ≡ true
    → (v : Text) × (first_of id rows ≡ Some v)
first-given id rows f e = go (find (λ r. bytes_eq r.id id) rows) (found-full (λ r. bytes_eq r.id id) rows f) e
  where
    first : (vs : List Text) → IsFull vs → (v : Text) × (slice_get vs 0 ≡ Some v)
    first [] h = absurd h
    first (v ∷ vs) h = (v, refl)

    go : (o : Option Row) → ((r : Row) → o ≡ Some r → IsFull r.values)
        → option_map_or (λ r. explicit_source r.source) o false ≡ true
        → (v : Text) × (option_and_then (λ r. slice_get r.values 0) o ≡ Some v)
    go None full bad = absurd (let wrong : false ≡ true = bad in cc)
    go (Some r) full ok = first r.values (full r refl)

-- ---- the commands

-- the word was given
abbrev pub IsGiven : Text → List Row → Type 0
IsGiven id rows = (v : Text) × (first_of id rows ≡ Some v)

abbrev pub IsCommand : Text → List Row → Type 0
IsCommand name rows = ((name ≡ codes "verdict") × IsGiven (codes "FILE") rows)
    ⊎ (((name ≡ codes "cert") × IsGiven (codes "FILE") rows)
    ⊎ (((name ≡ codes "verify") × IsGiven (codes "FILE") rows × IsGiven (codes "CERT") rows)
    ⊎ ((name ≡ codes "live") × IsGiven (codes "FILE") rows)))

abbrev pub IsWhole : Option (Text × List Row) → Type 0
IsWhole None = ⊥
IsWhole (Some given) = IsCommand given.0 given.1

abbrev whole_app : App
whole_app = built finder_app

-- what a level gives in which nothing is wrong
level-parts : (s : Shape) (names : Names) (words : List Text) (has : Bool) (below : Kinds)
    → level_fault s names nothing_held words has below ≡ []
    → (walk_fault s names (walk_from nothing_held) words ≡ []) × (below ≡ [])
    × (settle_fault s.rules s.args_override_self (walk s.rules names nothing_held words).held ≡ [])
    × (check_fault s (finished s.rules (walk s.rules names nothing_held words).held) has ≡ [])
level-parts s names words has below e =
    let end = (walk s.rules names nothing_held words).held in
    let walks = none-wrong (walk_fault s names (walk_from nothing_held) words) _ e in
    let belows = none-wrong below _ walks.1 in
    let settles = none-wrong (settle_fault s.rules s.args_override_self end) _ belows.1 in
    (walks.0, belows.0, settles.0, (none-wrong _ _ settles.1).1)

-- it ends with filled rows, and the last checks find nothing
leaf-passes : (s : Shape) → AllKeep s.args_override_self s.rules → (words : List Text)
    → level_fault s [] nothing_held words false [] ≡ []
    → AreFilled (rows_after s.rules [] words) × (check_fault s (rows_after s.rules [] words) false ≡ [])
leaf-passes s all words e =
    let parts = level-parts s [] words false [] e in
    let sound = walk-sound s all [] words (walk_from nothing_held) parts.0 (tt, tt) in
    (finished-filled s all (walk s.rules [] nothing_held words).held parts.2 sound.0, parts.3)

-- the three tests of the last checks are false
checks-false : (a b d : Bool) → check_kinds a b d ≡ [] → (a ≡ false) × (b ≡ false) × (d ≡ false)
checks-false true b d e = absurd (let wrong : 1 ≡ 0 = ap length e in omega arith)
checks-false false true d e = absurd (let wrong : 1 ≡ 0 = ap length e in omega arith)
checks-false false false true e = absurd (let wrong : 1 ≡ 0 = ap length e in omega arith)
checks-false false false false e = (refl, refl, refl)

-- where a subcommand is to be named, one was met
valid-subcommand : (s : Shape) (rows : List Row) (has : Bool) → s.subcommand_required ≡ true
    → check_fault s rows has ≡ [] → has ≡ true
valid-subcommand s rows has needs e =
    go has (subst (λ b. (not has && b) ≡ false) needs (checks-false _ _ _ e).1)
  where
    go : (b : Bool) → (not b && true) ≡ false → b ≡ true
    go true h = refl
    go false h = absurd (true≢false h)

-- of two tests neither holds
neither : (a b : Bool) → (not a || b) ≡ false → (a ≡ true) × (b ≡ false)
neither true b h = (refl, h)
neither false b h = absurd (true≢false h)

-- the commands as they are built
abbrev built_leaf_of : App → Shape
built_leaf_of part = built_leaf (inherited (on_top marked_built finder_app).top part.top)

abbrev at_place : ℕ → Rule → Rule
at_place place a = with_index place (filled a)

verdict-keeps : AllKeep false (built_leaf_of verdict_app).rules
verdict-keeps = (
  set-keeps false (at_place 1 workers_rule) refl refl refl,
  (
    flag-keeps false (at_place 1 json_rule) refl tt,
    (
      set-keeps false (at_place 1 file_rule) refl refl refl,
      (help-keeps false (at_place 2 help_rule) refl, tt),
    ),
  ),
)

cert-keeps : AllKeep false (built_leaf_of cert_app).rules
cert-keeps = (
  set-keeps false (at_place 1 file_rule) refl refl refl,
  (help-keeps false (at_place 2 help_rule) refl, tt),
)

verify-keeps : AllKeep false (built_leaf_of verify_app).rules
verify-keeps = (
  set-keeps false (at_place 1 file_rule) refl refl refl,
  (
    set-keeps false (at_place 2 certificate_rule) refl refl refl,
    (help-keeps false (at_place 3 help_rule) refl, tt),
  ),
)

live-keeps : AllKeep false (built_leaf_of live_app).rules
live-keeps = (
  set-keeps false (at_place 1 workers_rule) refl refl refl,
  (set-keeps false (at_place 1 file_rule) refl refl refl, (help-keeps false (at_place 2 help_rule) refl, tt)),
)

program-keeps : AllKeep false whole_app.top.rules
program-keeps =
    (help-keeps false (at_place 1 help_rule) refl, (version-keeps false (at_place 1 version_rule) refl, tt))

verdict-whole : (words : List Text) → level_fault (built_leaf_of verdict_app) [] nothing_held words false []
    ≡ []
    → IsWhole (Some (rows_at (built_leaf_of verdict_app) words))
verdict-whole words e =
    let rows = rows_after (built_leaf_of verdict_app).rules [] words in
    let end = leaf-passes (built_leaf_of verdict_app) verdict-keeps words e in
    inl (
      refl,
      first-given (codes "FILE") rows end.0
          (neither (is_given (codes "FILE") rows) false (checks-false false false _ end.1).2).0,
    )

cert-whole : (words : List Text) → level_fault (built_leaf_of cert_app) [] nothing_held words false [] ≡ []
    → IsWhole (Some (rows_at (built_leaf_of cert_app) words))
cert-whole words e =
    let rows = rows_after (built_leaf_of cert_app).rules [] words in
    let end = leaf-passes (built_leaf_of cert_app) cert-keeps words e in
    inr (inl (
      refl,
      first-given (codes "FILE") rows end.0
          (neither (is_given (codes "FILE") rows) false (checks-false false false _ end.1).2).0,
    ))

verify-whole : (words : List Text) → level_fault (built_leaf_of verify_app) [] nothing_held words false []
    ≡ []
    → IsWhole (Some (rows_at (built_leaf_of verify_app) words))
verify-whole words e =
    let rows = rows_after (built_leaf_of verify_app).rules [] words in
    let end = leaf-passes (built_leaf_of verify_app) verify-keeps words e in
    let given =
    neither (is_given (codes "FILE") rows) (not (is_given (codes "CERT") rows) || false)
    (checks-false false false _ end.1).2 in
    let certificate = neither (is_given (codes "CERT") rows) false given.1 in
    inr (inr (inl (
      refl,
      first-given (codes "FILE") rows end.0 given.0,
      first-given (codes "CERT") rows end.0 certificate.0,
    )))

live-whole : (words : List Text) → level_fault (built_leaf_of live_app) [] nothing_held words false [] ≡ []
    → IsWhole (Some (rows_at (built_leaf_of live_app) words))
live-whole words e =
    let rows = rows_after (built_leaf_of live_app).rules [] words in
    let end = leaf-passes (built_leaf_of live_app) live-keeps words e in
    inr (inr
    (inr (
      refl,
      first-given (codes "FILE") rows end.0
          (neither (is_given (codes "FILE") rows) false (checks-false false false _ end.1).2).0,
    )))

-- the subcommand that was found, if it passes, has what it wants
abbrev IsWholeAt : List Text → Option Shape → Type 0
IsWholeAt words o = option_map_or (λ s. level_fault s [] nothing_held words false []) o [] ≡ []
    → is_some (option_map (λ s. rows_at s words) o) ≡ true
    → IsWhole (option_map (λ s. rows_at s words) o)

or-false : (b : Bool) → (b || false) ≡ true → b ≡ true
or-false true e = refl
or-false false e = e

-- the subcommand at which a walk of the whole program stopped
entered-whole : (stop : Option (Text × List Text)) → entered_fault whole_app stop ≡ []
    → is_some (entered whole_app stop) ≡ true
    → StopAllowed whole_app.top stop → IsWhole (entered whole_app stop)
entered-whole None passes has allowed = absurd (let wrong : false ≡ true = has in cc)
entered-whole (Some p) passes has allowed =
    first (answers_to p.0 (codes "verdict", [])) (answers_to p.0 (codes "cert", []))
    (answers_to p.0 (codes "verify", [])) (answers_to p.0 (codes "live", []))
    (answers_to p.0 (codes "help", [])) no-help passes has
  where
    no-help : answers_to p.0 (codes "help", []) ≡ true → ⊥
    no-help h =
        let is : codes "help" ≡ p.0 =
        (bytes_eq-Decides (codes "help") p.0).0 (or-false (bytes_eq (codes "help") p.0) h) in
        let asked : IsAllowed whole_app.top (codes "help") =
        subst (λ n. IsAllowed whole_app.top n) (sym is) allowed in
        absurd (let wrong : 2 ≡ 0 = ap (λ (kinds : Kinds). length kinds) asked in omega arith)

    first : (a b d l e : Bool) → (e ≡ true → ⊥)
        → IsWholeAt p.1
        (cond a (Some (built_leaf_of verdict_app))
        (cond b (Some (built_leaf_of cert_app)) (cond d (Some (built_leaf_of verify_app))
        (cond l (Some (built_leaf_of live_app)) (cond e (Some (built_leaf help_shape)) None)))))
    first true b d l e never ok has = verdict-whole p.1 ok
    first false true d l e never ok has = cert-whole p.1 ok
    first false false true l e never ok has = verify-whole p.1 ok
    first false false false true e never ok has = live-whole p.1 ok
    first false false false false true never ok has = absurd (never refl)
    first false false false false false never ok has = absurd (let bad : false ≡ true = has in cc)

pub named-whole : (words : List Text) → kinds_at words ≡ [] → IsWhole (given_by words)
named-whole words e =
    let stop = (walk whole_app.top.rules (names_of whole_app) nothing_held words).stopped in
    let has : Bool = is_some (entered whole_app stop) in
    let parts = level-parts whole_app.top (names_of whole_app) words has (entered_fault whole_app stop) e in
    let sound =
    walk-sound whole_app.top program-keeps (names_of whole_app) words (walk_from nothing_held) parts.0
    (tt, tt) in
    let rows = rows_after whole_app.top.rules (names_of whole_app) words in
    entered-whole stop parts.1 (valid-subcommand whole_app.top rows has refl parts.3) sound.1

-- ---- so a usage fault is one of the number of workers

form-for : (flag : Option Text) → (form : Form) × IsFormOf flag form
form-for None = (
  PlainText,
  (
    λ e. absurd (let bad : PlainText ≡ Json = e in cc),
    λ e. absurd (let bad : None ≡ Some (codes "true") = e in cc),
  ),
)
form-for (Some t) = go (bytes_eq t (codes "true")) refl
  where
    go : (b : Bool) → bytes_eq t (codes "true") ≡ b → (form : Form) × IsFormOf (Some t) form
    go true e = (Json, (λ _. ap (λ x. Some x) ((bytes_eq-Decides t (codes "true")).0 e), λ _. refl))
    go false e = (
      PlainText,
      (
        λ bad. absurd (let wrong : PlainText ≡ Json = bad in cc),
        λ same. absurd (let is : t ≡ codes "true" = cc in let both-ways : true ≡ false =
            sym ((bytes_eq-Decides t (codes "true")).1 is) ∙ e in cc),
      ),
    )

none-asked : (given : Option (Text × List Row)) → IsWhole given → ((task : Task) → AsksFor given task → ⊥)
    → HasBadWorkers given
none-asked None whole never = absurd whole
none-asked (Some given) (inl verdict) never = (
  inl verdict.0,
  λ n right.
      let form = form-for (one_of (codes "json") given.1) in
      never (Verdict n form.0 verdict.1.0) (verdict.0, right, form.1, verdict.1.1),
)
none-asked (Some given) (inr (inl cert)) never = absurd (never (Cert cert.1.0) (cert.0, cert.1.1))
none-asked (Some given) (inr (inr (inl verify))) never =
    absurd (never (Verify verify.1.0 verify.2.0) (verify.0, verify.1.1, verify.2.1))
none-asked (Some given) (inr (inr (inr live))) never =
    (inr live.0, λ n right. never (Live n live.1.0) (live.0, right, live.1.1))

pub taken-as : (given : Option (Text × List Row)) (answer : Result Task WordsFault) → IsWhole given
    → IsAnswerToSubcommand given answer → IsAnswerWhereTaken given answer
taken-as given (Ok task) whole h = h
taken-as given (Err fault) whole (inl memory) = inl memory
taken-as given (Err fault) whole (inr usage) = inr (usage.0, none-asked given whole usage.1)
