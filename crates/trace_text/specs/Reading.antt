-- What words say: a number, a name, a response, an entry. Nothing, where they say none.
use Rattle.std.specs.Prelude.{ℕ, nat_le, Bool, ◌&&◌, if◌then◌else◌, Option, Some, None, List, [], ◌∷◌, codes}
use Rattle.std.specs.Prelude.{bytes_eq}
use Rattle.events.specs.Names.{NameBytes}
use Rattle.events.specs.History.{response_of}
use Rattle.events.specs.declared.entry.Entry.{Entry}
use Rattle.events.specs.declared.entry.Body.{Body}
use Rattle.events.specs.declared.entry.Body.TheVariants.{Ins, Del, Read, View, Recv}
use Rattle.format_words.specs.Words.{Word}
use Rattle.format_words.specs.Reading.{◌>>=◌, HasSome, number_of, name_of, word_at, number_at, after_word}
use Rattle.format_words.specs.Reading.{no_more, names_at}

-- the response has names, so that it takes memory
abbrev pub HasNames : Body → Type 0
HasNames body = HasSome (response_of body)

abbrev pub HasEntryNames : Entry → Type 0
HasEntryNames e = HasNames e.body

-- `:` and names
unfoldable pub response_at : List Word → Option (List NameBytes)
response_at ws = do
  names ← after_word (codes ":") ws
  names_at names

unfoldable pub insert_at : List Word → Option Body
insert_at ws = do
  word ← word_at ws
  name ← name_of word.0
  place ← number_at word.1
  response ← response_at place.1
  Some (Ins name place.0 response)

unfoldable pub delete_at : List Word → Option Body
delete_at ws = do
  word ← word_at ws
  name ← name_of word.0
  response ← response_at word.1
  Some (Del name response)

unfoldable pub read_at : List Word → Option Body
read_at ws = do
  response ← response_at ws
  Some (Read response)

unfoldable pub view_at : List Word → Option Body
view_at ws = do
  response ← response_at ws
  Some (View response)

-- operations count from 1
unfoldable pub receipt_at : List Word → Option Body
receipt_at ws = do
  replica ← number_at ws
  n ← number_at replica.1
  none ← no_more n.1
  if nat_le 1 n.0 then Some (Recv (record { replica = replica.0; n = n.0 })) else None

-- a view is read where there are views
unfoldable pub body_of_kind : Bool → Word → List Word → Option Body
body_of_kind views kind ws =
    if bytes_eq kind (codes "ins") then insert_at ws
    else (if bytes_eq kind (codes "del") then delete_at ws
    else (if bytes_eq kind (codes "read") then read_at ws
    else (if bytes_eq kind (codes "recv") then receipt_at ws
    else (if views && bytes_eq kind (codes "view") then view_at ws else None))))

unfoldable pub body_at : Bool → List Word → Option Body
body_at views ws = do
  kind ← word_at ws
  body_of_kind views kind.0 kind.1

-- a whole line
unfoldable pub entry_at : Bool → List Word → Option Entry
entry_at views [] = None
entry_at views (w ∷ ws) = do
  replica ← number_of w
  body ← body_at views ws
  Some (record { replica = replica; body = body })

-- `replicas R`
unfoldable pub replicas_at : List Word → Option ℕ
replicas_at ws = do
  words ← after_word (codes "replicas") ws
  n ← number_at words
  none ← no_more n.1
  Some n.0
