-- The packets of a commanded address are the next ones by their numbers, and two of them are its nine bytes.
use Rattle.std.proofs.Common.{◌≡◌, ◌≤◌, ◌+◌, ℕ, Bool, true, false, ◌&&◌, ◌==◌, nat_lt, List, [], ◌∷◌, ◌++◌, length, drop, Option, Some, None, arith, refl, sym, ap, ◌∙◌}
use Rattle.std.specs.Prelude.{slice_index}
use Rattle.std.proofs.lemmas.Bool.{lt-ltb}
use Rattle.node_core.specs.Commanding.{command_of, completed, continued, for_name, partial_of, taken_with}
use Rattle.requests.specs.Layouts.{commanded_of}
use Rattle.requests.specs.declared.commanded.Commanded.{Commanded}
use Rattle.node_core.specs.declared.commanding.PartialCommand.{PartialCommand}
use Rattle.node_core.specs.declared.commanding.PartialCommand.TheVariants.{Nothing, Started, First}
use Rattle.transport.specs.Assembling.{is_next}
use Rattle.transport.specs.Pieces.{joined}

-- the packet of this number
pub next_by_number : (taken : List (List ℕ)) (number : ℕ) (bytes : List ℕ) → length taken + 1 ≡ number → number ≤ 2
    → ((length bytes == 8) && (slice_index bytes 0 == number)) ≡ is_next 9 taken bytes
next_by_number taken number bytes e small =
    let missing : nat_lt (length taken) 2 ≡ true = lt-ltb (length taken) 2 (omega arith) in
    rw (← e, missing) (go (length bytes == 8) (slice_index bytes 0 == length taken + 1))
  where
    go : (b c : Bool) → (b && c) ≡ (b && (c && true))
    go true true = refl
    go true false = refl
    go false c = refl

-- seven bytes, and of eight the second and the third
pub nine_joined : (piece bytes : List ℕ) → length piece ≡ 7 → length bytes ≡ 8 → joined 9 (piece ∷ drop 1 bytes ∷ []) ≡ piece ++ slice_index bytes 1 ∷ slice_index bytes 2 ∷ []
nine_joined (a ∷ b ∷ c ∷ d ∷ e ∷ f ∷ g ∷ []) (x ∷ y ∷ z ∷ rest) p q = refl
nine_joined (a ∷ b ∷ c ∷ d ∷ e ∷ f ∷ g ∷ []) (x ∷ y ∷ []) p q = absurd cc
nine_joined (a ∷ b ∷ c ∷ d ∷ e ∷ f ∷ g ∷ []) (x ∷ []) p q = absurd cc
nine_joined (a ∷ b ∷ c ∷ d ∷ e ∷ f ∷ g ∷ []) [] p q = absurd cc
nine_joined (a ∷ b ∷ c ∷ d ∷ e ∷ f ∷ g ∷ h ∷ more) bytes p q = absurd (omega arith)
nine_joined (a ∷ b ∷ c ∷ d ∷ e ∷ f ∷ []) bytes p q = absurd cc
nine_joined (a ∷ b ∷ c ∷ d ∷ e ∷ []) bytes p q = absurd cc
nine_joined (a ∷ b ∷ c ∷ d ∷ []) bytes p q = absurd cc
nine_joined (a ∷ b ∷ c ∷ []) bytes p q = absurd cc
nine_joined (a ∷ b ∷ []) bytes p q = absurd cc
nine_joined (a ∷ []) bytes p q = absurd cc
nine_joined [] bytes p q = absurd cc

-- what the first packet makes
pub first_broken : (b : Bool) (bytes : List ℕ) → b ≡ is_next 9 [] bytes → b ≡ false → Nothing ≡ continued Started bytes
first_broken b bytes next broken = (let e : is_next 9 [] bytes ≡ false = sym next ∙ broken in rw e refl)

pub first_taken : (b : Bool) (bytes piece : List ℕ) → b ≡ is_next 9 [] bytes → b ≡ true → piece ≡ drop 1 bytes → First piece ≡ continued Started bytes
first_taken b bytes piece next taken e = (let t : is_next 9 [] bytes ≡ true = sym next ∙ taken in rw (t, e) refl)

-- and the second
pub second_broken : (b : Bool) (piece bytes : List ℕ) → b ≡ is_next 9 (piece ∷ []) bytes → b ≡ false → None ≡ completed (First piece) bytes
second_broken b piece bytes next broken = (let e : is_next 9 (piece ∷ []) bytes ≡ false = sym next ∙ broken in rw e refl)

pub second_taken : (b : Bool) (piece bytes nine : List ℕ) (o : Option Commanded) → b ≡ is_next 9 (piece ∷ []) bytes → b ≡ true → length piece ≡ 7 → length bytes ≡ 8
    → nine ≡ piece ++ slice_index bytes 1 ∷ slice_index bytes 2 ∷ [] → o ≡ Some (commanded_of nine) → o ≡ completed (First piece) bytes
second_taken b piece bytes nine o next taken p q e is =
    let t : is_next 9 (piece ∷ []) bytes ≡ true = sym next ∙ taken in
    is ∙ (ap (λ (l : List ℕ). Some (commanded_of l)) (e ∙ sym (nine_joined piece bytes p q)) ∙ (rw t refl))

-- the last one leaves nothing half joined
pub last_leaves_nothing : (name : ℕ) (partial : PartialCommand) (bytes : List ℕ) (c : Commanded) → for_name name (completed partial bytes) ≡ Some c → continued partial bytes ≡ Nothing
last_leaves_nothing name partial bytes c e = go (taken_with partial bytes) e
  where
    go : (t : Option (List (List ℕ))) → for_name name (command_of t) ≡ Some c → partial_of t ≡ Nothing
    go None e = absurd cc
    go (Some []) e = absurd cc
    go (Some (p ∷ [])) e = absurd cc
    go (Some (p ∷ q ∷ r)) e = refl
