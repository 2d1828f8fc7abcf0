-- Worked trace texts with a fault: the line that is named, and its cause.
use Rattle.std.specs.Prelude.{ℕ, List, ◌++◌, codes, [], ◌∷◌}
use Rattle.specification.specs.Lines.{text_of}
use Rattle.specification.specs.TraceText.{IsFirstLineFault, header, replicas, shape, cut, refused}
use Rattle.events.specs.declared.refusal.Refusal.TheVariants.{NoReplica, OwnReceipt, NotYet}

abbrev pub one_replica : List ℕ
one_replica = text_of (codes "trace 1" ∷ codes "replicas 1" ∷ [])

abbrev pub one_insert : List ℕ
one_insert = text_of (codes "trace 1" ∷ codes "replicas 2" ∷ codes "0 ins a 0 : a" ∷ [])

abbrev pub MalformedLines : Type 0
MalformedLines =
    IsFirstLineFault [] 1 header × IsFirstLineFault (text_of (codes "trace 1" ∷ [])) 2 replicas
    × IsFirstLineFault (text_of (codes "trace 2" ∷ [])) 2 replicas
    × IsFirstLineFault (text_of (codes "trace 3" ∷ [])) 1 header
    × IsFirstLineFault (codes "tra") 1 cut × IsFirstLineFault (one_replica ++ codes "0 read :") 3 cut
    × IsFirstLineFault (one_replica ++ text_of ([] ∷ [])) 3 shape
    × IsFirstLineFault (one_replica ++ text_of (codes "1 read :" ∷ [])) 3 (refused NoReplica)
    × IsFirstLineFault (one_insert ++ text_of (codes "1 recv 0 2" ∷ [])) 4 (refused (NotYet 1))
    × IsFirstLineFault (one_insert ++ text_of (codes "0 recv 0 1" ∷ [])) 4 (refused OwnReceipt)
