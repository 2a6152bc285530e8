-- What becomes of the runs by unit where an entry is put.
use Rattle.std.proofs.Common.{◌≡◌, ℕ, ◌<◌, Bool, true, false, ◌==◌, ◌&&◌, ◌||◌, List, [], ◌∷◌, ◌++◌, Option, Some, None, if◌then◌else◌, cond, is_some, map, refl, sym, ap, ◌∙◌, subst, arith}
use Rattle.std.specs.Prelude.{Result, Ok, Err, IfOk}
use Rattle.std.specs.Cmp.{IsEquivalence}
use Rattle.std.specs.List.{list_any}
use Rattle.std.specs.Map.{lookup, set_value}
use Rattle.std.specs.Option.{option_map_or}
use Rattle.std.specs.Ordering.{MatchOrdering, is_eq, nat_cmp, ordering_then}
use Rattle.std.specs.declared.cmp.Ordering.{Ordering}
use Rattle.std.specs.declared.cmp.Ordering.TheVariants.{Less, Equal, Greater}
use Rattle.std.proofs.lemmas.Bool.{eq-eqb, eqb-true, ne_eqb}
use Rattle.std.proofs.lemmas.Cmp.{eq_by_cmp_equiv, ranked}
use Rattle.std.proofs.lemmas.List.{map-append}
use Rattle.std.proofs.lemmas.Map.{lookup-set_value}
use Rattle.bus_model.specs.Overheard.{same_who}
use Rattle.bus_model.specs.declared.who.Who.{Who}
use Rattle.bus_model.specs.declared.who.Who.TheVariants as who
use Rattle.dm_messages.specs.View.{same_kind}
use Rattle.dm_messages.specs.declared.kind.Kind.{Kind}
use Rattle.dm_messages.specs.declared.kind.Kind.TheVariants.{Dm1, Dm2, Dm6}
use Rattle.bus_watch.specs.Runs.{HasOrder, UnitsValue, UnitValue, has_begun, key_of, no_runs, runs_in, runs_of, same_key, units_of, who_of, with_unit}
use Rattle.bus_watch.specs.contracts.key.KeyOrd.TheImpl.Laws as key_laws
use Rattle.bus_watch.specs.declared.key.Key.{Key}
use Rattle.bus_watch.specs.declared.run.EntryRun.{EntryRun}
use Rattle.bus_watch.specs.declared.key.Key.TheVariants as key

key_equiv : IsEquivalence same_key
key_equiv = eq_by_cmp_equiv key_laws.total-law

-- numbers that the order does not tell apart are equal
same_number : (n m : ℕ) → is_eq (nat_cmp n m) ≡ (n == m)
same_number n m = go (nat_cmp n m) (ranked n m (nat_cmp n m) refl)
  where
    go : (r : Ordering) → MatchOrdering r (n < m) (n ≡ m) (m < n) → is_eq r ≡ (n == m)
    go Less lt = sym (ne_eqb n m (λ e. omega (arith, lt, e)))
    go Equal e = sym (eq-eqb n m e)
    go Greater gt = sym (ne_eqb n m (λ e. omega (arith, gt, e)))

same_both : (r s : Ordering) → is_eq (ordering_then r s) ≡ (is_eq r && is_eq s)
same_both Less s = refl
same_both Equal s = refl
same_both Greater s = refl

-- units and their keys are equal alike
pub same_key_of : (u w : Who) → same_key (key_of u) (key_of w) ≡ same_who u w
same_key_of (who.Named n) (who.Named m) = same_number n m
same_key_of (who.Named n) (who.Unclaimed b h) = refl
same_key_of (who.Unclaimed a g) (who.Named m) = refl
same_key_of (who.Unclaimed a g) (who.Unclaimed b h) =
    same_both (nat_cmp a b) (nat_cmp g h) ∙ (λ i. same_number a b i && same_number g h i)

same_key_listed : (u : Who) (k : Key) → same_key (key_of u) k ≡ same_who u (who_of k)
same_key_listed u (key.Named m) = same_key_of u (who.Named m)
same_key_listed u (key.Unclaimed b h) = same_key_of u (who.Unclaimed b h)

pub who_of_key : (u : Who) → who_of (key_of u) ≡ u
who_of_key (who.Named n) = refl
who_of_key (who.Unclaimed a g) = refl

both : (b c : Bool) → (b && c) ≡ true → (b ≡ true) × (c ≡ true)
both true true e = (refl, refl)
both true false e = absurd cc
both false c e = absurd cc

-- and what is equal is the same
pub same_who_is : (u w : Who) → same_who u w ≡ true → u ≡ w
same_who_is (who.Named n) (who.Named m) e = ap (λ (v : ℕ). who.Named v) (eqb-true n m e)
same_who_is (who.Named n) (who.Unclaimed b h) e = absurd cc
same_who_is (who.Unclaimed a g) (who.Named m) e = absurd cc
same_who_is (who.Unclaimed a g) (who.Unclaimed b h) e =
    let both_are = both (a == b) (g == h) e in
    ap (λ (v : ℕ). who.Unclaimed v g) (eqb-true a b both_are.0) ∙ ap (λ (v : ℕ). who.Unclaimed b v) (eqb-true g h both_are.1)

pub none_of : (k : Kind) → runs_of no_runs k ≡ []
none_of Dm1 = refl
none_of Dm2 = refl
none_of Dm6 = refl

-- ---- the list of each unit and kind: what is seen of its runs, and what becomes of that by one entry more

module _ {X : Type 0} (see : List EntryRun → X) (more : X → X) where
  abbrev found : Option UnitValue → Kind → X
  found o k = see (option_map_or (λ (x : UnitValue). runs_of x k) o [])

  -- after a change of the runs under one key
  changed : (before after : UnitsValue) (u : Who) (kind : Kind) (new : UnitValue) (was : Kind → X)
      → ((k : Kind) → found (lookup (same_key (key_of u)) before.runs) k ≡ was k)
      → ((k : Kind) → see (runs_of new k) ≡ (if same_kind kind k then more (was k) else was k))
      → ((q : Key) → lookup (same_key q) after.runs ≡ cond (same_key (key_of u) q) (Some new) (lookup (same_key q) before.runs))
      → (w : Who) (k : Kind) → see (runs_in after w k) ≡ (if same_who u w && same_kind kind k then more (see (runs_in before w k)) else see (runs_in before w k))
  changed before after u kind new was there one looked w k =
      ap (λ (o : Option UnitValue). found o k) (looked (key_of w)) ∙ (ap (λ (b : Bool). found (cond b (Some new) (lookup (same_key (key_of w)) before.runs)) k) (same_key_of u w) ∙ go (same_who u w) refl)
    where
      go : (b : Bool) → same_who u w ≡ b → found (cond b (Some new) (lookup (same_key (key_of w)) before.runs)) k
          ≡ (if b && same_kind kind k then more (see (runs_in before w k)) else see (runs_in before w k))
      go false e = refl
      go true e =
          let here : see (runs_in before w k) ≡ was k = subst (λ (x : Who). see (runs_in before x k) ≡ was k) (same_who_is u w e) (there k) in
          one k ∙ ap (λ (l : X). if same_kind kind k then more l else l) (sym here)

-- what is found once the runs of a unit that has some are others
found_set : (runs : List (Key × UnitValue)) (q : Key) (unit new : UnitValue) → lookup (same_key q) runs ≡ Some unit
    → (p : Key) → lookup (same_key p) (set_value (same_key q) runs new) ≡ cond (same_key q p) (Some new) (lookup (same_key p) runs)
found_set runs q unit new there p =
    lookup-set_value key_equiv (same_key q) (λ x y h. key_equiv.congr q x y h) p new runs (rw (there) refl)

module _ {X : Type 0} (see : List EntryRun → X) (more : X → X) where
  -- one more entry of a unit that has some
  pub lengthened : (before after : UnitsValue) (u : Who) (kind : Kind) (unit new : UnitValue)
      → lookup (same_key (key_of u)) before.runs ≡ Some unit → after.runs ≡ set_value (same_key (key_of u)) before.runs new
      → ((k : Kind) → see (runs_of new k) ≡ (if same_kind kind k then more (see (runs_of unit k)) else see (runs_of unit k)))
      → (w : Who) (k : Kind) → see (runs_in after w k) ≡ (if same_who u w && same_kind kind k then more (see (runs_in before w k)) else see (runs_in before w k))
  lengthened before after u kind unit new there set one w k =
      changed see more before after u kind new (λ k. see (runs_of unit k)) (λ k. ap (λ (o : Option UnitValue). see (option_map_or (λ (x : UnitValue). runs_of x k) o [])) there) one
      (λ q. ap (λ (l : List (Key × UnitValue)). lookup (same_key q) l) set ∙ found_set before.runs (key_of u) unit new there q)
      w k

  -- the first entry of a unit
  pub begun : (before after : UnitsValue) (u : Who) (kind : Kind) (new : UnitValue)
      → lookup (same_key (key_of u)) before.runs ≡ None
      → ((q : Key) → lookup (same_key q) after.runs ≡ cond (same_key (key_of u) q) (Some new) (lookup (same_key q) before.runs))
      → ((k : Kind) → see (runs_of new k) ≡ (if same_kind kind k then more (see (runs_of no_runs k)) else see (runs_of no_runs k)))
      → (w : Who) (k : Kind) → see (runs_in after w k) ≡ (if same_who u w && same_kind kind k then more (see (runs_in before w k)) else see (runs_in before w k))
  begun before after u kind new none looked one w k =
      changed see more before after u kind new (λ k. see (runs_of no_runs k))
      (λ k. ap (λ (o : Option UnitValue). see (option_map_or (λ (x : UnitValue). runs_of x k) o [])) none ∙ ap see (sym (none_of k))) one looked w k

-- ---- the units that have entries

-- units are among these as their keys are
among : (order : List Key) (u : Who) → list_any (same_key (key_of u)) order ≡ list_any (same_who u) (map who_of order)
among [] u = refl
among (q ∷ order) u = (λ i. same_key_listed u q i || among order u i)

-- whether a unit has some
has_unit : (units : UnitsValue) (u : Who) → HasOrder units → is_some (lookup (same_key (key_of u)) units.runs) ≡ list_any (same_who u) (units_of units)
has_unit units u has = sym (has (key_of u)) ∙ among units.order u

-- one that has some keeps its place
pub units_kept : (before after : UnitsValue) (u : Who) (unit : UnitValue) → HasOrder before → lookup (same_key (key_of u)) before.runs ≡ Some unit
    → after.order ≡ before.order → units_of after ≡ with_unit u (units_of before)
units_kept before after u unit has there same =
    let is : list_any (same_who u) (units_of before) ≡ true = sym (has_unit before u has) ∙ ap is_some there in
    ap (map who_of) same ∙ sym (ap (λ (b : Bool). if b then units_of before else units_of before ++ u ∷ []) is)

key_of_who : (q : Key) → key_of (who_of q) ≡ q
key_of_who (key.Named n) = refl
key_of_who (key.Unclaimed a g) = refl

-- one that had none goes last
pub units_more : (before after : UnitsValue) (q : Key) → HasOrder before → lookup (same_key q) before.runs ≡ None
    → after.order ≡ before.order ++ q ∷ [] → units_of after ≡ with_unit (who_of q) (units_of before)
units_more before after q has none added =
    let is : list_any (same_who (who_of q)) (units_of before) ≡ false =
    sym (has_unit before (who_of q) has) ∙ (ap (λ (p : Key). is_some (lookup (same_key p) before.runs)) (key_of_who q) ∙ ap is_some none) in
    ap (map who_of) added
    ∙ (map-append who_of before.order (q ∷ [])
    ∙ sym (ap (λ (b : Bool). if b then units_of before else units_of before ++ who_of q ∷ []) is))

-- ---- and those that have runs are those in the order

is_some_set : (b : Bool) (new : UnitValue) (o : Option UnitValue) → (b ≡ true → is_some o ≡ true) → is_some (cond b (Some new) o) ≡ is_some o
is_some_set true new o there = sym (there refl)
is_some_set false new o there = refl

pub order_kept : (order : List Key) (runs : List (Key × UnitValue)) (q : Key) (unit new : UnitValue) → HasOrder (record { order = order; runs = runs })
    → lookup (same_key q) runs ≡ Some unit → HasOrder (record { order = order; runs = set_value (same_key q) runs new })
order_kept order runs q unit new has there p =
    has p ∙ sym (ap is_some (found_set runs q unit new there p)
    ∙ is_some_set (same_key q p) new (lookup (same_key p) runs)
    (λ e. ap is_some (sym (lookup-congr e) ∙ there)))
  where
    lookup-congr : same_key q p ≡ true → lookup (same_key q) runs ≡ lookup (same_key p) runs
    lookup-congr e = go runs
      where
        go : (es : List (Key × UnitValue)) → lookup (same_key q) es ≡ lookup (same_key p) es
        go [] = refl
        go (x ∷ es) = (λ i. cond (key_equiv.congr q p x.0 e i) (Some x.1) (go es i))

pub order_more : (order after_order : List Key) (runs after : List (Key × UnitValue)) (q : Key) (new : UnitValue) → HasOrder (record { order = order; runs = runs })
    → ((p : Key) → lookup (same_key p) after ≡ cond (same_key q p) (Some new) (lookup (same_key p) runs))
    → after_order ≡ order ++ q ∷ [] → HasOrder (record { order = after_order; runs = after })
order_more order after_order runs after q new has looked added p =
    ap (list_any (same_key p)) added ∙ (last order ∙ (ap (λ (b : Bool). b || same_key p q) (has p)
    ∙ (ap (λ (b : Bool). is_some (lookup (same_key p) runs) || b) (key_equiv.symm p q) ∙ (one (same_key q p) (lookup (same_key p) runs) ∙ ap is_some (sym (looked p))))))
  where
    or_false : (b : Bool) → (b || false) ≡ b
    or_false true = refl
    or_false false = refl

    or_assoc : (b c d : Bool) → (b || (c || d)) ≡ ((b || c) || d)
    or_assoc true c d = refl
    or_assoc false c d = refl

    last : (l : List Key) → list_any (same_key p) (l ++ q ∷ []) ≡ (list_any (same_key p) l || same_key p q)
    last [] = or_false (same_key p q)
    last (x ∷ l) = ap (λ (b : Bool). same_key p x || b) (last l) ∙ or_assoc (same_key p x) (list_any (same_key p) l) (same_key p q)

    one : (b : Bool) (o : Option UnitValue) → (is_some o || b) ≡ is_some (cond b (Some new) o)
    one true (Some x) = refl
    one true None = refl
    one false (Some x) = refl
    one false None = refl

-- ---- whether a run has begun

-- the runs of a unit that is found
pub runs_found : (units : UnitsValue) (u : Who) (unit : UnitValue) (k : Kind) → lookup (same_key (key_of u)) units.runs ≡ Some unit → runs_in units u k ≡ runs_of unit k
runs_found units u unit k there = ap (λ (o : Option UnitValue). option_map_or (λ (x : UnitValue). runs_of x k) o []) there

-- and once they are others
pub set_found : (runs : List (Key × UnitValue)) (q : Key) (unit new : UnitValue) → lookup (same_key q) runs ≡ Some unit → lookup (same_key q) (set_value (same_key q) runs new) ≡ Some new
set_found runs q unit new there =
    found_set runs q unit new there q ∙ ap (λ (b : Bool). cond b (Some new) (lookup (same_key q) runs)) (key_equiv.refl q)

pub begun_in : {E : Type 0} (result : Result Bool E) (before after was is : List EntryRun) → before ≡ was → after ≡ is
    → IfOk result (λ b. b ≡ has_begun before after) → IfOk result (λ b. b ≡ has_begun was is)
begun_in (Ok b) before after was is e f begun = begun ∙ (λ i. has_begun (e i) (f i))
begun_in (Err x) before after was is e f begun = tt
