-- A message half read, in its assembly.
use Rattle.std.proofs.Common.{◌≡◌, ℕ, ◌<◌, ◌==◌, Bool, true, false, List, [], ◌∷◌, ◌++◌, Option, Some, None, if◌then◌else◌, length, drop, refl, ap, ◌∙◌, arith}
use Rattle.transport.specs.Pieces.{packet_count}
use Rattle.std.specs.Prelude.{IsSome, IsTrue, slice_set}
use Rattle.transport.specs.Assembling.{AssemblyValue, is_next, with_part, took_of}
use Rattle.transport.specs.declared.took.Took.TheVariants.{More, Whole}
use Rattle.reassembly.specs.Partials.{PartialValue, with_piece, with_packet, is_whole, took_by, pieces_taken}
use Rattle.reassembly.specs.Tables.{TableValue, at, slots_of, has_slots}
use Rattle.reassembly.proofs.TableLemmas.{none_there, none_left}

-- what an assembly answers to a packet
pub answered_as : {T : Type 0} (tag : T) (size : ℕ) (taken : Option (List (List ℕ))) (packet : List ℕ) → IsSome taken
    → took_of size (with_part size taken packet) ≡ took_by (with_packet packet (Some (record { tag = tag; size = size; pieces = pieces_taken taken })))
answered_as tag size None packet there = absurd cc
answered_as tag size (Some taken) packet there = go (is_next size taken packet)
  where
    go : (b : Bool) → took_of size (if b then Some (taken ++ drop 1 packet ∷ []) else None)
        ≡ took_by (if b then Some (record { tag = tag; size = size; pieces = taken ++ drop 1 packet ∷ [] }) else None)
    go true = refl
    go false = refl

-- a packet that is next to the message is next to its assembly
pub next_there : {T : Type 0} (tag : T) (size : ℕ) (taken : Option (List (List ℕ))) (packet : List ℕ) → IsSome taken
    → IsSome (with_packet packet (Some (record { tag = tag; size = size; pieces = pieces_taken taken }))) → IsSome (with_part size taken packet)
next_there tag size None packet there next = absurd cc
next_there {T} tag size (Some taken) packet there next = go (is_next size taken packet) next
  where
    go : (b : Bool) → IsSome (if b then Some (with_piece {T = T} (drop 1 packet) (record { tag = tag; size = size; pieces = taken })) else None)
        → IsSome (if b then Some (taken ++ drop 1 packet ∷ []) else None)
    go true next = next
    go false next = absurd cc

-- and the message with it is the assembly with it
pub added_as : {T : Type 0} (tag : T) (size : ℕ) (taken : Option (List (List ℕ))) (packet : List ℕ) → IsSome taken → IsSome (with_part size taken packet)
    → Some (record { tag = tag; size = size; pieces = pieces_taken (with_part size taken packet) }) ≡ with_packet packet (Some (record { tag = tag; size = size; pieces = pieces_taken taken }))
added_as tag size None packet there next = absurd cc
added_as {T} tag size (Some taken) packet there next = go (is_next size taken packet) next
  where
    go : (b : Bool) → IsSome (if b then Some (taken ++ drop 1 packet ∷ []) else None)
        → ◌≡◌ {A = Option (PartialValue T)} (Some (record { tag = tag; size = size; pieces = pieces_taken (if b then Some (taken ++ drop 1 packet ∷ []) else None) }))
        (if b then Some (with_piece (drop 1 packet) (record { tag = tag; size = size; pieces = taken })) else None)
    go true next = refl
    go false next = absurd cc

-- a message that is whole
pub whole_there : {T : Type 0} (tag : T) (size : ℕ) (taken : Option (List (List ℕ))) → IsSome taken
    → IsTrue (is_whole {T = T} (record { tag = tag; size = size; pieces = pieces_taken taken })) → took_of size taken ≡ Whole
whole_there tag size None there whole = absurd cc
whole_there tag size (Some taken) there whole = go (length taken == packet_count size) whole
  where
    go : (b : Bool) → IsTrue b → (if b then Whole else More) ≡ Whole
    go true h = refl
    go false h = absurd cc

-- where nothing is kept of any address, no message grows
pub none_grown : {T : Type 0} (len : ℕ) (items : List (Option (PartialValue T))) (i : ℕ) (packet : List ℕ) → len ≡ length items → (len == 0) ≡ true
    → ◌≡◌ {A = TableValue (PartialValue T)} (record { slots = slots_of items; is_made = has_slots items }) (record { slots = slice_set (slots_of items) i (with_packet packet (at (slots_of items) i)); is_made = has_slots items })
none_grown {T} len items i packet same e =
    none_left len items i same e
    ∙ ap (λ (o : Option (PartialValue T)). record { slots = slice_set (slots_of items) i (with_packet packet o); is_made = has_slots items }) (none_there len items i same e)

-- a list that is not empty has a last item
split_last : (x : List ℕ) (xs : List (List ℕ)) → (front : List (List ℕ)) × (y : List ℕ) × (x ∷ xs ≡ front ++ y ∷ [])
split_last x [] = ([], x, refl)
split_last x (z ∷ zs) = let r = split_last z zs in (x ∷ r.0, r.1, ap (λ (l : List (List ℕ)). x ∷ l) r.2)

-- an assembly that gave back its last packet is not broken
pub given_there : (old new : AssemblyValue) → IsSome old.taken → 0 < length (pieces_taken old.taken)
    → ((before : List (List ℕ)) (part : List ℕ) → old.taken ≡ Some (before ++ part ∷ []) → new ≡ record old { taken = Some before }) → IsSome new.taken
given_there old new there some given = go old.taken refl some there
  where
    go : (o : Option (List (List ℕ))) → old.taken ≡ o → 0 < length (pieces_taken o) → IsSome o → IsSome new.taken
    go None e some there = absurd cc
    go (Some []) e some there = absurd (omega arith)
    go (Some (x ∷ xs)) e some there = let r = split_last x xs in rw (given r.0 r.1 (e ∙ ap (λ (l : List (List ℕ)). Some l) r.2)) refl
