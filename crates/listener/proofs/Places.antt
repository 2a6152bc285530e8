-- Tables of pairs after one change.
use Rattle.std.proofs.Common.{◌≡◌, ℕ, ◌<◌, Bool, true, false, ◌&&◌, ◌==◌, List, Option, Some, None, if◌then◌else◌, length, refl, sym, ap, ◌∙◌, subst}
use Rattle.std.specs.Prelude.{slice_set}
use Rattle.std.proofs.lemmas.Bool.{eqb-true}
use Rattle.std.proofs.lemmas.List.{length-set, length-replicate, get_or-replicate, set-get_or}
use Rattle.reassembly.specs.Pairs.{no_pairs, pair_at, pairs_from, with_pair}
use Rattle.reassembly.specs.Partials.{answer_to}
use Rattle.reassembly.specs.TableLaws.{at-empty, at-set, item-set, places-empty, written_back}
use Rattle.reassembly.specs.Tables.{at, empty_table}
use Rattle.bus_model.specs.Overheard.{HalfSent}
use Rattle.listener.specs.ListenerSteps.{after_packet_between}
use Rattle.listener.specs.ListenerValue.{AreFor256, ListenerValue}

-- what is written of a source
row_written : (t : List (List (Option HalfSent))) (i a : ℕ) (row : List (Option HalfSent)) → length t ≡ 256 → i < 256 → pairs_from (slice_set t i row) a ≡ (if i == a then row else pairs_from t a)
row_written t i a row len lt = item-set empty_table t i a row (subst (λ (v : ℕ). i < v) (sym len) lt)

-- what is written of a pair
pub pair_written : (owned : List (Option ℕ)) (t : List (List (Option HalfSent))) (i j a d : ℕ) (v : Option HalfSent) → AreFor256 owned t → i < 256 → j < 256
    → pair_at (with_pair t i j v) a d ≡ (if i == a && j == d then v else pair_at t a d)
pair_written owned t i j a d v places lt lu = ap (λ (row : List (Option HalfSent)). at row d) (row_written t i a (slice_set (pairs_from t i) j v) places.sources lt) ∙ go (i == a) refl
  where
    go : (b : Bool) → (i == a) ≡ b → at (if b then slice_set (pairs_from t i) j v else pairs_from t a) d ≡ (if b && j == d then v else pair_at t a d)
    go true e =
        at-set (pairs_from t i) j d v (subst (λ (x : ℕ). j < x) (sym (places.destinations i lt)) lu)
        ∙ ap (λ (x : ℕ). if j == d then v else pair_at t x d) (eqb-true i a e)
    go false e = refl

-- all of a source is dropped
pub source_dropped : (owned : List (Option ℕ)) (t : List (List (Option HalfSent))) (i a d : ℕ) → AreFor256 owned t → i < 256 → pair_at (slice_set t i empty_table) a d ≡ (if i == a then None else pair_at t a d)
source_dropped owned t i a d places lt = ap (λ (row : List (Option HalfSent)). at row d) (row_written t i a empty_table places.sources lt) ∙ go (i == a)
  where
    go : (b : Bool) → at (if b then empty_table else pairs_from t a) d ≡ (if b then None else pair_at t a d)
    go true = at-empty d
    go false = refl

-- the tables keep their places
row_places : (t : List (List (Option HalfSent))) (i : ℕ) (row : List (Option HalfSent)) → length t ≡ 256 → i < 256 → length row ≡ 256 → ((a : ℕ) → a < 256 → length (pairs_from t a) ≡ 256)
    → (a : ℕ) → a < 256 → length (pairs_from (slice_set t i row) a) ≡ 256
row_places t i row len lt full each a below = ap (λ (r : List (Option HalfSent)). length r) (row_written t i a row len lt) ∙ go (i == a)
  where
    go : (b : Bool) → length (if b then row else pairs_from t a) ≡ 256
    go true = full
    go false = each a below

pub pair_places : (owned : List (Option ℕ)) (t : List (List (Option HalfSent))) (i j : ℕ) (v : Option HalfSent) → AreFor256 owned t → i < 256 → AreFor256 owned (with_pair t i j v)
pair_places owned t i j v places lt = record {
  owners = places.owners;
  sources = length-set t i (slice_set (pairs_from t i) j v) ∙ places.sources;
  destinations = row_places t i (slice_set (pairs_from t i) j v) places.sources lt (length-set (pairs_from t i) j v ∙ places.destinations i lt) places.destinations;
}

pub dropped_places : (owned : List (Option ℕ)) (t : List (List (Option HalfSent))) (i : ℕ) → AreFor256 owned t → i < 256 → AreFor256 owned (slice_set t i empty_table)
dropped_places owned t i places lt = record {
  owners = places.owners;
  sources = length-set t i empty_table ∙ places.sources;
  destinations = row_places t i empty_table places.sources lt (places-empty HalfSent) places.destinations;
}

pub owner_places : (owned : List (Option ℕ)) (t : List (List (Option HalfSent))) (i : ℕ) (v : Option ℕ) → AreFor256 owned t → AreFor256 (slice_set owned i v) t
owner_places owned t i v places = record { owners = length-set owned i v ∙ places.owners; sources = places.sources; destinations = places.destinations }

-- no pairs
none_from : (a : ℕ) → a < 256 → pairs_from (no_pairs {X = HalfSent}) a ≡ empty_table
unfolding no_pairs
none_from a below = get_or-replicate 256 a empty_table empty_table below

pub none_at : (a d : ℕ) → a < 256 → pair_at (no_pairs {X = HalfSent}) a d ≡ None
none_at a d below = ap (λ (row : List (Option HalfSent)). at row d) (none_from a below) ∙ at-empty d

none_sources : length (no_pairs {X = HalfSent}) ≡ 256
unfolding no_pairs
none_sources = length-replicate {A = List (Option HalfSent)} 256 empty_table

pub none_places : AreFor256 empty_table no_pairs
none_places = record {
  owners = places-empty ℕ;
  sources = none_sources;
  destinations = λ a below. ap (λ (row : List (Option HalfSent)). length row) (none_from a below) ∙ places-empty HalfSent;
}

-- what is there, written back, changes nothing
pub pair_written_back : (t : List (List (Option HalfSent))) (i j : ℕ) → with_pair t i j (pair_at t i j) ≡ t
pair_written_back t i j = ap (slice_set t i) (written_back (pairs_from t i) j) ∙ set-get_or t i empty_table

-- a packet of nothing changes nothing
no_answer : (q : List ℕ) (o : Option HalfSent) → answer_to q o ≡ None → o ≡ None
no_answer q None h = refl
no_answer q (Some j) h = absurd cc

pub nothing_between : (l : ListenerValue) (s d : ℕ) (q : List ℕ) → answer_to q (pair_at l.pairs s d) ≡ None → l ≡ after_packet_between l s d q
nothing_between l s d q h =
    let none : pair_at l.pairs s d ≡ None = no_answer q (pair_at l.pairs s d) h in
    let back : with_pair l.pairs s d None ≡ l.pairs = ap (with_pair l.pairs s d) (sym none) ∙ pair_written_back l.pairs s d in
    rw (none, back) refl
