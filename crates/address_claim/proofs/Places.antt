-- A list of what a function gives at each place, and the same after a change at one place.
use Rattle.std.proofs.Common.{◌≡◌, ◌≢◌, ◌<◌, ℕ, false, List, length, map, arith, sym, ◌∙◌, ◌⊎◌, inl, inr, replicate, refl}
use Rattle.std.specs.Prelude.{slice_set, slice_index_or}
use Rattle.std.specs.List.{range_with_len}
use Rattle.std.specs.declared.cmp.Ordering.{Ordering}
use Rattle.std.specs.declared.cmp.Ordering.TheVariants.{Less, Equal, Greater}
use Rattle.std.specs.Ordering.{MatchOrdering, nat_cmp, is_eq}
use Rattle.std.proofs.lemmas.Bool.{cases_eq}
use Rattle.std.proofs.lemmas.Cmp.{ranked}
use Rattle.std.proofs.lemmas.List.{length-set, length-replicate, get_or-replicate, get_or-set_same, get_or-set_other}
use Rattle.std.proofs.lemmas.List.FromFn.{fill_by_all, length-map-range_with_len, get_or-map-range_with_len}

module _ {X : Type 0} where
  -- what stands at a place
  pub placed : (f : ℕ → X) (n k : ℕ) (d : X) → k < n → slice_index_or (map f (range_with_len 0 n)) k d ≡ f k
  placed f n k d lt = get_or-map-range_with_len f 0 n k k d lt (omega arith)

  -- f and g differ at k alone, where g gives v
  pub set_at : (f g : ℕ → X) (n k : ℕ) (v : X) → k < n → g k ≡ v → ((q : ℕ) → q ≢ k → g q ≡ f q)
      → map g (range_with_len 0 n) ≡ slice_set (map f (range_with_len 0 n)) k v
  set_at f g n k v lt here there =
      let was : List X = map f (range_with_len 0 n) in
      let long : length was ≡ n = length-map-range_with_len f 0 n in
      sym (fill_by_all g (slice_set was k v) n v (length-set was k v ∙ long) (λ q below. go q below (cases_eq q k)))
    where
      go : (q : ℕ) → q < n → (q ≡ k) ⊎ (q ≢ k) → slice_index_or (slice_set (map f (range_with_len 0 n)) k v) q v ≡ g q
      go q below (inl e) =
          let inside : k < length (map f (range_with_len 0 n)) = rw (length-map-range_with_len f 0 n) lt in
          let same : slice_index_or (slice_set (map f (range_with_len 0 n)) k v) k v ≡ v = get_or-set_same (map f (range_with_len 0 n)) k v v inside in
          rw (e) (same ∙ sym here)
      go q below (inr apart) = get_or-set_other (map f (range_with_len 0 n)) k q v v apart ∙ (placed f n q v below ∙ sym (there q apart))

  -- the same everywhere
  pub all_same : (v : X) (n : ℕ) → map (λ (_ : ℕ). v) (range_with_len 0 n) ≡ replicate n v
  all_same v n = sym (fill_by_all (λ (_ : ℕ). v) (replicate n v) n v (length-replicate n v) (λ k lt. get_or-replicate n k v v lt))

-- the order of keys tells apart what is apart
pub not_equal : (k q : ℕ) → q ≢ k → is_eq (nat_cmp k q) ≡ false
not_equal k q apart = go (nat_cmp k q) (ranked k q (nat_cmp k q) refl)
  where
    go : (r : Ordering) → MatchOrdering r (k < q) (k ≡ q) (q < k) → is_eq r ≡ false
    go Less lt = refl
    go Equal e = absurd (apart (sym e))
    go Greater gt = refl
