-- What words say: a number, a name, the name of an operation. Nothing, where they say none.
use Rattle.std.specs.Prelude.{◌≡◌, ℕ, ◌+◌, ◌≤◌, ◌^◌, ◌==◌, ◌&&◌, nat_lt, nat_le, take, drop, position}
use Rattle.std.specs.Prelude.{if◌then◌else◌, Option, Some, None, option_and_then, option_map, Result, Ok, Err}
use Rattle.std.specs.Prelude.{List, [], ◌∷◌, ◌++◌, length, decimal, bytes_eq}
use Rattle.std.specs.Str.Parse.{digits_value}
use Rattle.events.specs.Names.{NameBytes}
use Rattle.events.specs.Operation.{Operation}
use Rattle.events.specs.NameFaults.{name_fault}
use Rattle.events.specs.declared.name.NameFault.{NameFault}
use Rattle.format_words.specs.Words.{Word}
use Rattle.format_words.specs.declared.stop.Stop.{Stop}
use Rattle.format_words.specs.declared.stop.Stop.TheVariants.{Shape, Memory}
use Rattle.format_words.specs.declared.stop.Shape as unsaid

infixl 10 ◌>>=◌
abbrev pub ◌>>=◌ : {A B : Type 0} → Option A → (A → Option B) → Option B
o >>= f = option_and_then f o

-- a reader that takes no memory gives, seen by view, what reading gives
abbrev pub Says : {X Y : Type 0} → (X → Y) → Result X unsaid.Shape → Option Y → Type 0
Says view (Ok x) read = read ≡ Some (view x)
Says view (Err e) read = read ≡ None

-- reading gives something, and this holds of it
abbrev pub GivesOne : {Y : Type 0} → (Y → Type 0) → Option Y → Type 0
GivesOne holds None = ⊥
GivesOne holds (Some y) = holds y

-- it stopped since there is nothing to be read; or out of memory, where there is something that takes memory
abbrev pub Fails : {Y : Type 0} → (Y → Type 0) → Stop → Option Y → Type 0
Fails takes Shape read = read ≡ None
Fails takes Memory read = GivesOne takes read

-- a reader gives, seen by view, what reading gives, unless that takes memory and none is left
abbrev pub Gives : {X Y : Type 0} → (Y → Type 0) → (X → Y) → Result X Stop → Option Y → Type 0
Gives takes view (Ok x) read = read ≡ Some (view x)
Gives takes view (Err e) read = Fails takes e read

-- the same, wherever memory runs out
abbrev pub Grows : {X Y : Type 0} → (X → Y) → Result X Stop → Option Y → Type 0
Grows view (Ok x) read = read ≡ Some (view x)
Grows view (Err e) read = e ≡ Shape → read ≡ None

-- there are some
abbrev pub HasSome : {Y : Type 0} → List Y → Type 0
HasSome ys = 1 ≤ length ys

-- the number below 2 ^ 32 whose decimal text the word is
unfoldable pub number_of : Word → Option ℕ
number_of w =
    if bytes_eq w (decimal (digits_value 10 w)) && nat_lt (digits_value 10 w) (2 ^ 32) then Some
    (digits_value 10 w) else None

abbrev pub unless_fault : Option NameFault → Word → Option NameBytes
unless_fault None w = Some w
unless_fault (Some fault) w = None

-- the word as a name
unfoldable pub name_of : Word → Option NameBytes
name_of w = unless_fault (name_fault w) w

-- the word as the name of an operation: `r.n`, counted from 1
unfoldable pub operation_of : Word → Option Operation
operation_of w = do
  dot ← position (λ b. b == 46) w
  replica ← number_of (take dot w)
  n ← number_of (drop (dot + 1) w)
  if nat_le 1 n then Some (record { replica = replica; n = n }) else None

-- a word, and the words after it
abbrev pub word_at : List Word → Option (Word × List Word)
word_at [] = None
word_at (w ∷ ws) = Some (w, ws)

unfoldable pub number_at : List Word → Option (ℕ × List Word)
number_at ws = do
  word ← word_at ws
  n ← number_of word.0
  Some (n, word.1)

unfoldable pub name_at : List Word → Option (NameBytes × List Word)
name_at ws = do
  word ← word_at ws
  name ← name_of word.0
  Some (name, word.1)

unfoldable pub operation_at : List Word → Option (Operation × List Word)
operation_at ws = do
  word ← word_at ws
  operation ← operation_of word.0
  Some (operation, word.1)

-- the words after one that must be there
unfoldable pub after_word : List ℕ → List Word → Option (List Word)
after_word wanted ws = do
  word ← word_at ws
  if bytes_eq word.0 wanted then Some word.1 else None

-- no more words
abbrev pub no_more : List Word → Option (Unit {0})
no_more [] = Some tt
no_more (w ∷ ws) = None

-- all words as names
unfoldable pub names_at : List Word → Option (List NameBytes)
names_at [] = Some []
names_at (w ∷ ws) = do
  name ← name_of w
  names ← names_at ws
  Some (name ∷ names)

-- the names so far, and those that words say
abbrev pub onto : List NameBytes → Option (List NameBytes) → Option (List NameBytes)
onto front names = option_map (λ (more : List NameBytes). front ++ more) names
