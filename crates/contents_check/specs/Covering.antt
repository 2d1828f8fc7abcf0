-- What replicas are found to be, and what is kept on the way: operations whose responses cover those so far.
use Rattle.std.specs.Prelude.{◌≡◌, ◌⊎◌, ℕ, ◌*◌, ◌<◌, List, ◌∷◌, ◌++◌, map, flat_map, take, drop, length}
use Rattle.std.specs.Prelude.{slice_index_or, All, IfOk, Result}
use Rattle.events.specs.Names.{NameBytes}
use Rattle.events.specs.declared.memory.Memory.{Memory}
use Rattle.events.specs.Operation.{Operation}
use Rattle.events.specs.History.{History}
use Rattle.events.specs.Operations.{count, numbers_from, operation_names, response}
use Rattle.specification.specs.Elements.{elements}
use Rattle.specification.specs.Faults.{HasRightContents, HasRightPosition, IsFirstFault, IsSound}
use Rattle.specification.specs.Members.{In, Before}
use Rattle.specification.specs.Orders.{IsSubsequence}
use Rattle.element_numbers.specs.Covering.{Covers, IsNumbered, IsPart}
use Rattle.contents_check.specs.declared.first.Checked.{Checked}
use Rattle.contents_check.specs.declared.first.Checked.TheVariants.{Faulty, Sound}
use Rattle.contents_check.specs.declared.fault.Fault.{Fault}
use Rattle.contents_check.specs.declared.fault.Fault.TheVariants.{Doubled, Contents, Position}
use Rattle.contents_check.specs.declared.walk.Walked.{Walked}
use Rattle.contents_check.specs.declared.walk.Walked.TheVariants.{Wrong, Right}
use Rattle.contents_check.specs.FaultOf.{fault_of}
use Rattle.contents_check.specs.Replicas.{IsRightReplica, IsFirstWrongIn}

-- an operation of these that covers this one: itself, or one that stands before it
abbrev pub IsFoundIn : History → List Operation → List Operation → Operation → Type 0
IsFoundIn h all some o =
    (p : Operation) × In p some × ((p ≡ o) ⊎ Before p o all) × IsSubsequence (response h o) (response h p)

-- some of the operations, each with all that they cover, by the places where they stand
pub record AreKeptOf (h : History) (all some : List Operation) : Type 0 where
  pub part : IsPart some all
  pub covered : (o : Operation) → In o all → IsFoundIn h all some o

-- the names of a replica's first operations, so many, in order
abbrev pub first_operations : ℕ → ℕ → List Operation
first_operations r n = map (λ k. record { replica = r; n = k }) (numbers_from 1 n)

-- the operations of these replicas, in order
abbrev pub operations_of : History → List ℕ → List Operation
operations_of h replicas = flat_map (λ r. first_operations r (count h r)) replicas

-- this is what is wrong with the operation
abbrev pub IsFaultAt : History → Operation → Fault → Type 0
IsFaultAt h e (Doubled first again) = ⊥
IsFaultAt h e (Contents at) = (at ≡ e) × (¬ HasRightContents h e)
IsFaultAt h e (Position at) = (at ≡ e) × HasRightContents h e × (¬ HasRightPosition h e)

-- of these replicas this is the fault of the first wrong operation of the first that has one
pub record IsFirstFaultAmong (h : History) (replicas : List ℕ) (fault : Fault) : Type 0 where
  pub front : List ℕ
  pub replica : ℕ
  pub back : List ℕ
  pub split : replicas ≡ front ++ replica ∷ back
  pub right : All (IsRightReplica h) front
  pub n : ℕ
  pub first : IsFirstWrongIn h replica n
  pub is : IsFaultAt h (record { replica = replica; n = n }) fault

-- the replicas' first fault; or all their operations are right, and these cover them
abbrev pub IsWalked : History → List NameBytes → List ℕ → Walked → Type 0
IsWalked h names replicas (Wrong fault) = IsFirstFaultAmong h replicas fault
IsWalked h names replicas (Right covering) =
    All (IsRightReplica h) replicas × Covers h names (operations_of h replicas) covering

-- each of these pieces that was made has what its part of the replicas is found to be; a part has `size`
-- replicas, the last perhaps fewer
abbrev pub ArePieces : History → List NameBytes → ℕ → List ℕ → List (Result Walked Memory) → Type 0
ArePieces h names size replicas pieces =
    (n : ℕ) (d : Result Walked Memory) → n < length pieces
    → IfOk (slice_index_or pieces n d) (IsWalked h names (take size (drop (n * size) replicas)))

-- the first fault; or there is none, and these are its elements
abbrev pub IsChecked : History → Checked → Type 0
IsChecked h (Faulty fault) = IsFirstFault h (fault_of fault)
IsChecked h (Sound numbered) = IsSound h × IsNumbered h numbered
