-- What is half joined from each source, as a list.
use Rattle.std.proofs.Common.{◌≡◌, ◌≢◌, ◌<◌, ◌≤◌, ◌⊎◌, inl, inr, ℕ, replicate, Some, None, IsSome, arith, refl, sym, ap, ◌∙◌}
use Rattle.std.specs.Prelude.{slice_set}
use Rattle.std.specs.Ordering.{nat_cmp}
use Rattle.std.specs.BTreeMap.{BTreeMap, get, is_at, IsEmpty, IsUnchanged, Updates, WritesThrough}
use Rattle.std.proofs.lemmas.Bool.{cases_eq, cases_lt}
use Rattle.std.proofs.lemmas.List.{length-replicate, get_or-replicate, get_or_past}
use Rattle.std.proofs.lemmas.List.FromFn.{fill_by_all, length-map-range_with_len}
use Rattle.std.proofs.lemmas.Map.Steps.{set_value_same}
use Rattle.node_core.specs.Commanding.{partial_from}
use Rattle.node_core.specs.PartialCommands.{partial_at, partial_or_nothing, partials_of}
use Rattle.node_core.specs.declared.commanding.PartialCommand.{PartialCommand}
use Rattle.node_core.specs.declared.commanding.PartialCommand.TheVariants.{Nothing}
use Rattle.node_core.specs.declared.partial_commands.Partials.{Partials}
use Rattle.node_core.specs.declared.partial_commands.Partials.TheVariants.{One, Many}
use Rattle.address_claim.proofs.Places.{placed, set_at, not_equal}

-- what stands in place is from its source
here : (only : ℕ) (partial : PartialCommand) → partial_at (One only partial) only ≡ partial
here only partial = grind arith

-- and from no other
elsewhere : (only q : ℕ) (partial : PartialCommand) → q ≢ only → partial_at (One only partial) q ≡ Nothing
elsewhere only q partial apart = grind arith

-- where nothing stands in place, nothing is half joined
nowhere : (only q : ℕ) → partial_at (One only Nothing) q ≡ Nothing
nowhere only q = grind arith

pub none_half : (only : ℕ) → partials_of (One only Nothing) ≡ replicate 254 Nothing
unfolding partials_of
none_half only =
    sym (fill_by_all (partial_at (One only Nothing)) (replicate 254 Nothing) 254 Nothing (length-replicate 254 Nothing) (λ k lt. get_or-replicate 254 k Nothing Nothing lt ∙ sym (nowhere only k)))

pub half_there : (partials : Partials) (source : ℕ) → source ≤ 253 → partial_from (partials_of partials) source ≡ partial_at partials source
unfolding partials_of
half_there partials source le = placed (partial_at partials) 254 source Nothing (omega (arith, le))

-- what stands in place is another source's: from this one nothing is half joined, be it an address that can be held or not
pub nothing_elsewhere : (only source : ℕ) (partial : PartialCommand) → only ≢ source → partial_from (partials_of (One only partial)) source ≡ Nothing
unfolding partials_of
nothing_elsewhere only source partial apart = go (cases_lt 253 source)
  where
    go : (253 < source) ⊎ (source ≤ 253) → partial_from (partials_of (One only partial)) source ≡ Nothing
    go (inl past) =
        get_or_past (partials_of (One only partial)) source Nothing (rw (length-map-range_with_len (partial_at (One only partial)) 0 254) past)
    go (inr le) = half_there (One only partial) source le ∙ elsewhere only source partial (λ same. apart (sym same))

-- a change of one source
changed : (was now : Partials) (source : ℕ) (partial : PartialCommand) → source ≤ 253 → partial_at now source ≡ partial → ((q : ℕ) → q ≢ source → partial_at now q ≡ partial_at was q)
    → partials_of now ≡ slice_set (partials_of was) source partial
unfolding partials_of
changed was now source partial le here there = set_at (partial_at was) (partial_at now) 254 source partial (omega (arith, le)) here there

-- what stands in place is written over
pub half_rewritten : (source : ℕ) (was partial : PartialCommand) → source ≤ 253 → partials_of (One source partial) ≡ slice_set (partials_of (One source was)) source partial
half_rewritten source was partial le =
    changed (One source was) (One source partial) source partial le (here source partial) (λ q apart. elsewhere source q partial apart ∙ sym (elsewhere source q was apart))

-- the place goes over to another source, where nothing stood there
pub half_moved : (only source : ℕ) (partial : PartialCommand) → source ≤ 253 → partials_of (One source partial) ≡ slice_set (partials_of (One only Nothing)) source partial
half_moved only source partial le =
    changed (One only Nothing) (One source partial) source partial le (here source partial) (λ q apart. elsewhere source q partial apart ∙ sym (nowhere only q))

-- where nothing is half joined from a source, nothing is dropped
pub no_half_dropped : (partials : Partials) (source : ℕ) → source ≤ 253 → partial_from (partials_of partials) source ≡ Nothing → partials_of partials ≡ slice_set (partials_of partials) source Nothing
no_half_dropped partials source le none =
    changed partials partials source Nothing le (sym (half_there partials source le) ∙ none) (λ q apart. refl)

-- what stands in place is another source's
pub other_dropped : (only source : ℕ) (partial : PartialCommand) → source ≤ 253 → source ≢ only → partials_of (One only partial) ≡ slice_set (partials_of (One only partial)) source Nothing
other_dropped only source partial le apart =
    changed (One only partial) (One only partial) source Nothing le (elsewhere only source partial apart) (λ q other. refl)

pub half_kept : (was now : BTreeMap ℕ PartialCommand) (source : ℕ) (partial : PartialCommand) → source ≤ 253 → Updates nat_cmp was now source (Some partial)
    → partials_of (Many now) ≡ slice_set (partials_of (Many was)) source partial
half_kept was now source partial le u =
    changed (Many was) (Many now) source partial le (ap partial_or_nothing u.1) (λ q apart. ap partial_or_nothing (u.2 q (not_equal source q apart)))

-- from an empty map
empty_is_nothing : (m : BTreeMap ℕ PartialCommand) → IsEmpty m → (q : ℕ) → partial_at (Many m) q ≡ Nothing
empty_is_nothing m e q = rw e refl

-- a map of one entry is as what stands in place
first_kept : (was now : BTreeMap ℕ PartialCommand) (only : ℕ) (kept : PartialCommand) → IsEmpty was → Updates nat_cmp was now only (Some kept)
    → (q : ℕ) → partial_at (Many now) q ≡ partial_at (One only kept) q
first_kept was now only kept e u q = go (cases_eq q only)
  where
    go : (q ≡ only) ⊎ (q ≢ only) → partial_at (Many now) q ≡ partial_at (One only kept) q
    go (inl same) = rw same (ap partial_or_nothing u.1 ∙ sym (here only kept))
    go (inr apart) = ap partial_or_nothing (u.2 q (not_equal only q apart)) ∙ (empty_is_nothing was e q ∙ sym (elsewhere only q kept apart))

-- two entries in an empty map
pub second_kept : (none one two : BTreeMap ℕ PartialCommand) (only source : ℕ) (kept partial : PartialCommand) → source ≤ 253 → IsEmpty none
    → Updates nat_cmp none one only (Some kept) → Updates nat_cmp one two source (Some partial) → partials_of (Many two) ≡ slice_set (partials_of (One only kept)) source partial
second_kept none one two only source kept partial le e u v =
    changed (One only kept) (Many two) source partial le (ap partial_or_nothing v.1)
    (λ q apart. ap partial_or_nothing (v.2 q (not_equal source q apart)) ∙ first_kept none one only kept e u q)

-- the same entries, the same list
pub half_unchanged : (was now : BTreeMap ℕ PartialCommand) → IsUnchanged was now → partials_of (Many now) ≡ partials_of (Many was)
unfolding partials_of
half_unchanged was now e = rw e refl

-- an entry that is written over
pub half_overwritten : (was now : BTreeMap ℕ PartialCommand) (source : ℕ) (partial : PartialCommand) → source ≤ 253 → IsSome (get nat_cmp was source)
    → WritesThrough nat_cmp (nat_cmp source) was partial now → partials_of (Many now) ≡ slice_set (partials_of (Many was)) source partial
half_overwritten was now source partial le some w = half_kept was now source partial le (w.3 some)

-- an entry that is written over with itself
pub half_read : (was now : BTreeMap ℕ PartialCommand) (source : ℕ) (partial : PartialCommand) → get nat_cmp was source ≡ Some partial
    → WritesThrough nat_cmp (nat_cmp source) was partial now → partials_of (Many now) ≡ partials_of (Many was)
half_read was now source partial there w = half_unchanged was now (w.0 ∙ set_value_same (is_at (nat_cmp source)) was.entries partial there)

-- where there is no entry, nothing is dropped
pub half_missing : (was now : BTreeMap ℕ PartialCommand) (source : ℕ) → source ≤ 253 → get nat_cmp was source ≡ None → now ≡ was
    → partials_of (Many now) ≡ slice_set (partials_of (Many was)) source Nothing
half_missing was now source le none same =
    ap (λ (m : BTreeMap ℕ PartialCommand). partials_of (Many m)) same ∙ changed (Many was) (Many was) source Nothing le (ap partial_or_nothing none) (λ q apart. refl)
