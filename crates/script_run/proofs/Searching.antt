-- What a search among items that have keys answers.
use Rattle.std.proofs.Common.{ℕ, ◌≡◌, List, Option, Some, None, Ok, IfSome, slice_get, ap, sym, ◌∙◌}
use Rattle.std.specs.List.Sorted.{IsBinarySearchResult}
use Rattle.std.specs.Ordering.{nat_cmp}
use Rattle.std.proofs.lemmas.Cmp.{ranked}
use Rattle.std.proofs.lemmas.Option.{get_or_from_slice_get}

-- where it finds a place, the item there has the key
pub found_there : {X : Type 0} (key : X → ℕ) (items : List X) (k place : ℕ) (item : Option X) → slice_get items place ≡ item
    → IsBinarySearchResult (λ x. nat_cmp (key x) k) items (Ok place) → IfSome item (λ x. key x ≡ k)
found_there key items k place None at found = tt
found_there key items k place (Some x) at found =
    ap key (sym (get_or_from_slice_get items place x x at)) ∙ ranked _ k _ (sym (found x))
