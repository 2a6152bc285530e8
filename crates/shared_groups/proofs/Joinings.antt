-- A change that leaves what is half joined there changes nothing.
use Rattle.std.proofs.Common.{◌≡◌, ℕ, List, Option, sym, ap, ◌∙◌}
use Rattle.std.specs.Prelude.{slice_set}
use Rattle.reassembly.specs.Tables.{at}
use Rattle.reassembly.specs.TableLaws.{written_back}
use Rattle.shared_groups.specs.Sharing.{SharedJoining, joining_kept, without_group}

pub kept_as_it_was : (t : List (Option SharedJoining)) (i name : ℕ) → joining_kept name (at t i) ≡ at t i → t ≡ slice_set t i (joining_kept name (at t i))
kept_as_it_was t i name e = sym (ap (slice_set t i) e ∙ written_back t i)

pub left_as_it_was : (t : List (Option SharedJoining)) (i pgn : ℕ) → without_group pgn (at t i) ≡ at t i → t ≡ slice_set t i (without_group pgn (at t i))
left_as_it_was t i pgn e = sym (ap (slice_set t i) e ∙ written_back t i)
