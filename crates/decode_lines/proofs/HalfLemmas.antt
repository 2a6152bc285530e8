-- What a change at one source and one destination makes of what is half joined.
use Rattle.std.proofs.Common.{◌≡◌, ◌<◌, ◌==◌, ℕ, Bool, List, Option, None, true, false, length, if◌then◌else◌, sym, ap, subst, ◌∙◌, ⊎_elim}
use Rattle.std.specs.Prelude.{slice_set}
use Rattle.std.proofs.lemmas.Bool.{cases_lt}
use Rattle.std.proofs.lemmas.List.{get_or_past, get_or-replicate, length-replicate, length-set}
use Rattle.reassembly.specs.Pairs.{no_pairs, pairs_from, with_pair}
use Rattle.reassembly.specs.Partials.{PartialValue}
use Rattle.reassembly.specs.TableLaws.{at-empty, item-set, places-empty}
use Rattle.reassembly.specs.Tables.{at, empty_table}
use Rattle.decode_lines.specs.Halves.{AreWhole, PairHalves, half}

abbrev pub Row : Type 0
Row = List (Option (PartialValue ℕ))

-- what is written of a source
row_written : (halves : PairHalves) (s x : ℕ) (row : Row) → AreWhole halves → s < 256 → pairs_from (slice_set halves s row) x ≡ (if s == x then row else pairs_from halves x)
row_written halves s x row whole small = item-set empty_table halves s x row (subst (λ (n : ℕ). s < n) (sym whole.sources) small)

-- the tables stay whole
pub pair_whole : (halves new : PairHalves) (s d : ℕ) (v : Option (PartialValue ℕ)) → AreWhole halves → s < 256 → new ≡ with_pair halves s d v → AreWhole new
pair_whole halves new s d v whole small is = subst AreWhole (sym is) (record {
  sources = length-set halves s (slice_set (pairs_from halves s) d v) ∙ whole.sources;
  destinations = λ x below. ap (λ (row : Row). length row) (row_written halves s x (slice_set (pairs_from halves s) d v) whole small) ∙ go (s == x) x below;
})
  where
    go : (b : Bool) (x : ℕ) → x < 256 → length (if b then slice_set (pairs_from halves s) d v else pairs_from halves x) ≡ 256
    go true x below = length-set (pairs_from halves s) d v ∙ whole.destinations s small
    go false x below = whole.destinations x below

-- no pairs
none_from : (x : ℕ) → pairs_from (no_pairs {X = PartialValue ℕ}) x ≡ empty_table
unfolding no_pairs
none_from x = ⊎_elim (λ h. get_or-replicate 256 x empty_table empty_table h) (λ h. get_or_past (no_pairs {X = PartialValue ℕ}) x empty_table h) (cases_lt x 256)

pub none_half : (halves : PairHalves) → halves ≡ no_pairs → (x y : ℕ) → half halves x y ≡ None
none_half halves is x y = ap (λ t. half t x y) is ∙ ap (λ (row : Row). at row y) (none_from x) ∙ at-empty y

none_sources : length (no_pairs {X = PartialValue ℕ}) ≡ 256
unfolding no_pairs
none_sources = length-replicate {A = Row} 256 empty_table

pub none_whole : (halves : PairHalves) → halves ≡ no_pairs → AreWhole halves
none_whole halves is = subst AreWhole (sym is) (record {
  sources = none_sources;
  destinations = λ x below. ap (λ (row : Row). length row) (none_from x) ∙ places-empty (PartialValue ℕ);
})
