-- In a parse in which nothing is wrong, each argument that was found has a value.
use Rattle.std.proofs.Common.{◌≡◌, ℕ, zero, suc, Bool, true, false, List, [], ◌∷◌, ◌++◌, length, Option, Some}
use Rattle.std.proofs.Common.{None, is_some, ap, arith, refl, subst, drop}
use Rattle.std.specs.Prelude.{encode_utf8, find, fold, if◌then◌else◌, slice_get}
use Rattle.std.specs.Option.{option_map_or}
use Rattle.std.specs.Str.{bytes_eq, chars}
use Rattle.clap.specs.Walk.{Held, Names, Outcome, Row, Rule, Step, Text, Waiting, Walk, after_flag}
use Rattle.clap.specs.Walk.{after_step, arg_by_id, arg_by_index, arg_by_long, arg_by_short, at_row}
use Rattle.clap.specs.Walk.{attached_value, bundle_met, bundle_step, default_rows, done, waits, plain}
use Rattle.clap.specs.Walk.{refused, finished, flag_met, has_row, idle, option, positional, long_met}
use Rattle.clap.specs.Walk.{long_or_other, more_values, nothing_held, next, trailing, subcommand, value}
use Rattle.clap.specs.Walk.{option_met, option_word, plain_word, reacted, reading_by, settled, settled_rows}
use Rattle.clap.specs.Walk.{short_met, short_or_plain, subcommand_met, subcommand_or_other, takes_values}
use Rattle.clap.specs.Walk.{to_positional, used, used_by_id, walked, walked_from, with_default, with_values}
use Rattle.clap.specs.Walk.{without, word_met}
use Rattle.clap.specs.Lexer.{long_of, short_of}
use Rattle.clap.specs.Simple.{Shape}
use Rattle.clap.specs.Faults.{bundle_fault, bundle_step_fault, flag_word_fault, flags_fault, long_fault}
use Rattle.clap.specs.Faults.{option_fault, other_fault, positional_fault, react_fault, settle_fault}
use Rattle.clap.specs.Faults.{short_fault, step_fault, stray_fault, turn_fault, use_fault, walk_fault}
use Rattle.clap.specs.Faults.{word_fault}
use Rattle.clap.specs.Kinds.{Kinds, or_else}
use Rattle.clap.specs.declared.error.kind.ErrorKind.TheVariants.{TooManyValues}
use Rattle.clap.specs.declared.parser.matches.ValueSource.{ValueSource}
use Rattle.clap.specs.declared.parser.matches.ValueSource.TheVariants.{DefaultValue}
use Rattle.clap.specs.declared.builder.value_parser.Reading.{Reading}

abbrev pub IsFull : List Text → Type 0
IsFull [] = ⊥
IsFull (v ∷ vs) = Unit {0}

-- each row has a value
abbrev pub AreFilled : List Row → Type 0
AreFilled [] = Unit {0}
AreFilled (r ∷ rs) = IsFull r.values × AreFilled rs

full-append : (xs ys : List Text) → IsFull xs → IsFull (xs ++ ys)
full-append [] ys h = absurd h
full-append (x ∷ xs) ys h = tt

filled-append : (xs ys : List Row) → AreFilled xs → AreFilled ys → AreFilled (xs ++ ys)
filled-append [] ys h k = k
filled-append (x ∷ xs) ys h k = (h.0, filled-append xs ys h.1 k)

at_row-filled : (id : Text) (change : Row → List Row) (missing : List Row)
    → ((r : Row) → IsFull r.values → AreFilled (change r)) → AreFilled missing
    → (rows : List Row) → AreFilled rows → AreFilled (at_row id change missing rows)
at_row-filled id change missing each none [] h = none
at_row-filled id change missing each none (r ∷ rs) h =
    go (bytes_eq r.id id) (at_row-filled id change missing each none rs h.1)
  where
    go : (b : Bool) → AreFilled (at_row id change missing rs)
        → AreFilled (if b then change r ++ rs else r ∷ at_row id change missing rs)
    go true rest = filled-append (change r) rs (each r h.0) h.1
    go false rest = (h.0, rest)

pub with_values-filled : (id : Text) (how : Reading) (s : ValueSource) (values : List Text) (rows : List Row)
    → IsFull values → AreFilled rows
    → AreFilled (with_values id how s values rows)
with_values-filled id how s values rows full h =
    at_row-filled id (more_values s values) _ (λ r some. (full-append r.values values some, tt))
    (full, tt) rows h

pub without-filled : (id : Text) (rows : List Row) → AreFilled rows → AreFilled (without id rows)
without-filled id rows h = at_row-filled id (λ _. []) [] (λ r some. tt) tt rows h

-- a use of the argument in which nothing is wrong keeps the rows filled
abbrev pub KeepsFilled : Bool → Rule → Type 0
KeepsFilled again a =
    (values : List Text) (rows : List Row) → use_fault again a values rows ≡ [] → AreFilled rows
    → AreFilled (used a values rows)

abbrev pub AllKeep : Bool → List Rule → Type 0
AllKeep again [] = Unit {0}
AllKeep again (a ∷ c) = KeepsFilled again a × AllKeep again c

-- so does each that is found among them
found-keeps : (again : Bool) (p : Rule → Bool) (c : List Rule) → AllKeep again c → (a : Rule)
    → find p c ≡ Some a → KeepsFilled again a
found-keeps again p [] all a e = absurd (let bad : None ≡ Some a = e in cc)
found-keeps again p (x ∷ c) all a e = go (p x) (found-keeps again p c all.1 a) e
  where
    go : (b : Bool) → (find p c ≡ Some a → KeepsFilled again a) → (if b then Some x else find p c) ≡ Some a
        → KeepsFilled again a
    go true rest same = let is : x ≡ a = cc in subst (KeepsFilled again) is all.0
    go false rest same = rest same

-- the name may be that of a subcommand that is entered
abbrev pub IsAllowed : Shape → Text → Type 0
IsAllowed s name = other_fault s (Some name) [] nothing_held ≡ []

abbrev pub StepAllowed : Shape → Step → Type 0
StepAllowed s (subcommand name) = IsAllowed s name
StepAllowed s _ = Unit {0}

abbrev pub StopAllowed : Shape → Option (Text × List Text) → Type 0
StopAllowed s None = Unit {0}
StopAllowed s (Some p) = IsAllowed s p.0

abbrev pub IsFine : Shape → Held × Step → Type 0
IsFine s met = AreFilled met.0.rows × StepAllowed s met.1

abbrev pub IsSound : Shape → Walk → Type 0
IsSound s w = AreFilled w.held.rows × StopAllowed s w.stopped

-- where the first of two lists that is not empty would be told, both are empty
pub none-wrong : (a b : Kinds) → or_else a b ≡ [] → (a ≡ []) × (b ≡ [])
none-wrong [] b e = (refl, e)
none-wrong (k ∷ ks) b e = absurd (let wrong : length (k ∷ ks) ≡ 0 = ap length e in omega arith)

module _ (s : Shape) (all : AllKeep s.args_override_self s.rules) where
  keeps : (p : Rule → Bool) (a : Rule) → find p s.rules ≡ Some a → KeepsFilled s.args_override_self a
  keeps p a e = found-keeps s.args_override_self p s.rules all a e

  by-id : (o : Option Rule) → ((a : Rule) → o ≡ Some a → KeepsFilled s.args_override_self a)
      → (values : List Text) (rows : List Row)
      → option_map_or (λ a. use_fault s.args_override_self a values rows) o [] ≡ [] → AreFilled rows
      → AreFilled (used_by_id o values rows)
  by-id None keep values rows e h = h
  by-id (Some a) keep values rows e h = keep a refl values rows e h

  settled-filled : (pending : Option (Text × List Text)) (rows : List Row)
      → option_map_or (λ p. option_map_or (λ a. use_fault s.args_override_self a p.1 rows)
      (arg_by_id s.rules p.0) []) pending [] ≡ []
      → AreFilled rows → AreFilled (settled_rows s.rules pending rows)
  settled-filled None rows e h = h
  settled-filled (Some p) rows e h =
      by-id (arg_by_id s.rules p.0) (keeps (λ a. bytes_eq a.id p.0)) p.1 rows e h

  reacted-filled : (a : Rule) → KeepsFilled s.args_override_self a → (values : List Text) (h : Held)
      → react_fault s.rules s.args_override_self a values h ≡ [] → AreFilled h.rows
      → AreFilled (reacted s.rules a values h).rows
  reacted-filled a keep values h e f =
      let parts = none-wrong (settle_fault s.rules s.args_override_self h) _ e in
      keep values (settled s.rules h).rows parts.1 (settled-filled h.pending h.rows parts.0 f)

  option-filled : (a : Rule) → KeepsFilled s.args_override_self a → (v : Option Text) (h : Held)
      → option_fault s.rules s.args_override_self a v h ≡ [] → AreFilled h.rows
      → AreFilled (option_met s.rules a v h).0.rows
  option-filled a keep None h e f = settled-filled h.pending h.rows e f
  option-filled a keep (Some v) h e f = reacted-filled a keep (v ∷ []) h e f

  flag-filled : (a : Rule) → KeepsFilled s.args_override_self a → (v : Option Text) (h : Held)
      → (if is_some v then TooManyValues ∷ [] else react_fault s.rules s.args_override_self a [] h) ≡ []
      → AreFilled h.rows → AreFilled (flag_met s.rules a v h).0.rows
  flag-filled a keep None h e f = reacted-filled a keep [] h e f
  flag-filled a keep (Some v) h e f = f

  long-filled : (o : Option Rule) → ((a : Rule) → o ≡ Some a → KeepsFilled s.args_override_self a)
      → (v : Option Text) (h : Held)
      → long_fault s.rules s.args_override_self o v h ≡ [] → AreFilled h.rows
      → AreFilled (long_met s.rules o v h).0.rows
  long-filled None keep v h e f = f
  long-filled (Some a) keep v h e f = go (takes_values a) e
    where
      go : (b : Bool) → (if b then option_fault s.rules s.args_override_self a v h
          else (if is_some v then TooManyValues ∷ [] else react_fault s.rules s.args_override_self a [] h))
          ≡ []
          → AreFilled (if b then option_met s.rules a v h else flag_met s.rules a v h).0.rows
      go true p = option-filled a (keep a refl) v h p f
      go false p = flag-filled a (keep a refl) v h p f

  short-filled : (o : Option Rule) → ((a : Rule) → o ≡ Some a → KeepsFilled s.args_override_self a)
      → (rest : Text) (h : Held)
      → (more : Held → Held × Outcome) (test : Held → Kinds)
      → ((g : Held) → test g ≡ [] → AreFilled g.rows → AreFilled (more g).0.rows)
      → short_fault s.rules s.args_override_self o rest h test ≡ [] → AreFilled h.rows
      → AreFilled (short_met s.rules o rest h more).0.rows
  short-filled None keep rest h more test on e f = f
  short-filled (Some a) keep rest h more test on e f = go (takes_values a) e
    where
      go : (b : Bool) → (if b then option_fault s.rules s.args_override_self a (attached_value rest) h
          else or_else (react_fault s.rules s.args_override_self a [] h) (test (reacted s.rules a [] h))) ≡ []
          → AreFilled (if b then option_met s.rules a (attached_value rest) h else more
          (reacted s.rules a [] h)).0.rows
      go true p = option-filled a (keep a refl) (attached_value rest) h p f
      go false p =
          let parts = none-wrong (react_fault s.rules s.args_override_self a [] h) _ p in
          on (reacted s.rules a [] h) parts.1 (reacted-filled a (keep a refl) [] h parts.0 f)

  character-filled : (o : Option ℕ) (flags : Text) (skip : ℕ) (so_far : Outcome) (h : Held)
      → (more : Text → ℕ → Outcome → Held → Held × Outcome) (test : Text → ℕ → Held → Kinds)
      → ((t : Text) (k : ℕ) (u : Outcome) (g : Held) → test t k g ≡ [] → AreFilled g.rows
      → AreFilled (more t k u g).0.rows)
      → bundle_step_fault s.rules s.args_override_self o flags skip h test ≡ [] → AreFilled h.rows
      → AreFilled (bundle_step s.rules o flags skip so_far h more).0.rows
  character-filled None flags skip so_far h more test on e f = f
  character-filled (Some x) flags zero so_far h more test on e f =
      let rest : Text = drop (length (encode_utf8 x)) flags in
      short-filled (arg_by_short s.rules x) (keeps _) rest h (more rest 0 done) (test rest 0)
      (λ g. on rest 0 done g) e f
  character-filled (Some x) flags (suc skip) so_far h more test on e f = on _ skip so_far h e f

  bundle-filled : (k : ℕ) (flags : Text) (skip : ℕ) (so_far : Outcome) (h : Held)
      → flags_fault s.rules s.args_override_self k flags skip h ≡ []
      → AreFilled h.rows → AreFilled (bundle_met s.rules k flags skip so_far h).0.rows
  unfolding bundle_met flags_fault
  bundle-filled zero flags skip so_far h e f = f
  bundle-filled (suc k) flags skip so_far h e f =
      character-filled (slice_get (chars flags) 0) flags skip so_far h (bundle_met s.rules k)
      (flags_fault s.rules s.args_override_self k) (bundle-filled k) e f

  plain-fine : (waiting : Waiting) (word : Text) (h : Held) → AreFilled h.rows
      → IsFine s (plain_word s.rules waiting word h)
  plain-fine idle word h f = (f, tt)
  plain-fine positional word h f = (f, tt)
  plain-fine (option id) word h f = (go (arg_by_id s.rules id), tt)
    where
      go : (o : Option Rule) → AreFilled (option_word o id word h).0.rows
      go None = f
      go (Some a) = f

  after-fine : (waiting : Waiting) (word : Text) (h : Held) (o : Outcome) → AreFilled h.rows
      → IsFine s (after_flag s.rules waiting word h o)
  after-fine waiting word h done f = (f, tt)
  after-fine waiting word h (waits id) f = (f, tt)
  after-fine waiting word h plain f = plain-fine waiting word h f
  after-fine waiting word h refused f = plain-fine waiting word h f

  short-fine : (waiting : Waiting) (word : Text) (o : Option Text) (h : Held)
      → option_map_or (λ flags. bundle_fault s.rules s.args_override_self flags h) o [] ≡ []
      → AreFilled h.rows
      → IsFine s (short_or_plain s.rules waiting word o h)
  short-fine waiting word None h e f = plain-fine waiting word h f
  short-fine waiting word (Some flags) h e f =
      after-fine waiting word _ _
      (bundle-filled (length flags) flags h.skip plain (record h { skip = 0 }) e f)

  long-fine : (waiting : Waiting) (word : Text) (o : Option (Text × Option Text)) (h : Held)
      → flag_word_fault s.rules s.args_override_self o word h ≡ [] → AreFilled h.rows
      → IsFine s (long_or_other s.rules waiting word o h)
  long-fine waiting word None h e f = short-fine waiting word (short_of word) h e f
  long-fine waiting word (Some p) h e f =
      after-fine waiting word _ _ (long-filled (arg_by_long s.rules p.0) (keeps _) p.1 h e f)

  other-fine : (o : Option Text) (waiting : Waiting) (position : ℕ) (word : Text) (h : Held)
      → other_fault s o word h ≡ [] → AreFilled h.rows
      → IsFine s (subcommand_or_other s.rules o waiting position word h)
  other-fine (Some name) waiting position word h e f = (f, e)
  other-fine None waiting position word h e f = go (bytes_eq word (45 ∷ 45 ∷ [])) e
    where
      go : (b : Bool) → (if b then [] else flag_word_fault s.rules s.args_override_self (long_of word) word h)
          ≡ []
          → IsFine s
          (if b then (h, trailing position) else long_or_other s.rules waiting word (long_of word) h)
      go true p = (f, tt)
      go false p = long-fine waiting word (long_of word) h p f

  word-fine : (names : Names) (is_trailing : Bool) (waiting : Waiting) (position : ℕ) (word : Text) (h : Held)
      → word_fault s names is_trailing waiting word h ≡ [] → AreFilled h.rows
      → IsFine s (word_met s.rules names is_trailing waiting position word h)
  word-fine names true waiting position word h e f = (f, tt)
  word-fine names false waiting position word h e f =
      other-fine (subcommand_met names waiting word) waiting position word h e f

  positional-filled : (a : Rule) (word : Text) (h : Held) (b : Bool)
      → (if b then [] else settle_fault s.rules s.args_override_self h) ≡ [] → AreFilled h.rows
      → AreFilled (if b then h else settled s.rules h).rows
  positional-filled a word h true e f = f
  positional-filled a word h false e f = settled-filled h.pending h.rows e f

  value-sound : (o : Option Rule) (word : Text) (w : Walk) (h : Held)
      → option_map_or (λ a. positional_fault s.rules s.args_override_self a h) o (stray_fault s) ≡ []
      → AreFilled h.rows → StopAllowed s w.stopped
      → IsSound s (to_positional s.rules o word w h)
  value-sound None word w h e f stop = (f, stop)
  value-sound (Some a) word w h e f stop = (positional-filled a word h _ e f, tt)

  step-sound : (word : Text) (w : Walk) (h : Held) (step : Step) → step_fault s w.position h step ≡ []
      → AreFilled h.rows → StepAllowed s step
      → StopAllowed s w.stopped → IsSound s (after_step s.rules word w h step)
  step-sound word w h (next waiting) e f ok stop = (f, stop)
  step-sound word w h (trailing position) e f ok stop = (f, stop)
  step-sound word w h (subcommand name) e f ok stop = (f, ok)
  step-sound word w h value e f ok stop = value-sound (arg_by_index s.rules w.position) word w h e f stop

  turn-sound : (names : Names) (w : Walk) (word : Text) → turn_fault s names w word ≡ [] → IsSound s w
      → IsSound s (walked s.rules names w word)
  unfolding walked
  turn-sound names w word e sound = go w.stopped e sound.1
    where
      go : (o : Option (Text × List Text))
          → (if is_some o then [] else or_else (word_fault s names w.is_trailing w.waiting word w.held)
          (step_fault s w.position (word_met s.rules names w.is_trailing w.waiting w.position word w.held).0
          (word_met s.rules names w.is_trailing w.waiting w.position word w.held).1)) ≡ []
          → StopAllowed s o → IsSound s (walked_from s.rules names o w word)
      go (Some p) passes stop = (sound.0, stop)
      go None passes stop =
          let parts = none-wrong (word_fault s names w.is_trailing w.waiting word w.held) _ passes in
          let fine = word-fine names w.is_trailing w.waiting w.position word w.held parts.0 sound.0 in
          step-sound word w _ _ parts.1 fine.0 fine.1 sound.1

  pub walk-sound : (names : Names) (words : List Text) (w : Walk) → walk_fault s names w words ≡ []
      → IsSound s w
      → IsSound s (fold (walked s.rules names) w words)
  unfolding walk_fault
  walk-sound names [] w e sound = sound
  walk-sound names (word ∷ rest) w e sound =
      let parts = none-wrong (turn_fault s names w word) _ e in
      walk-sound names rest (walked s.rules names w word) parts.1 (turn-sound names w word parts.0 sound)

  defaulted : (a : Rule) (rows : List Row) → AreFilled rows → (ds : List Text)
      → AreFilled (default_rows a.id (reading_by a) ds rows)
  defaulted a rows f [] = f
  defaulted a rows f (v ∷ vs) = with_values-filled a.id (reading_by a) DefaultValue (v ∷ vs) rows tt f

  default-filled : (a : Rule) (rows : List Row) → AreFilled rows → AreFilled (with_default rows a)
  default-filled a rows f = go (has_row a.id rows)
    where
      go : (b : Bool) → AreFilled (if b then rows else default_rows a.id (reading_by a) a.defaults rows)
      go true = f
      go false = defaulted a rows f a.defaults

  defaults-filled : (c : List Rule) (rows : List Row) → AreFilled rows → AreFilled (fold with_default rows c)
  defaults-filled [] rows f = f
  defaults-filled (a ∷ c) rows f = defaults-filled c (with_default rows a) (default-filled a rows f)

  pub finished-filled : (h : Held) → settle_fault s.rules s.args_override_self h ≡ [] → AreFilled h.rows
      → AreFilled (finished s.rules h)
  finished-filled h e f = defaults-filled s.rules _ (settled-filled h.pending h.rows e f)
