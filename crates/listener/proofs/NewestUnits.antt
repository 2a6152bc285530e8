-- What is kept of the lists by unit where an entry is put of which only the newest stay.
use Rattle.std.proofs.Common.{◌≡◌, ℕ, ◌<◌, Bool, true, false, ◌==◌, ◌&&◌, ◌||◌, List, [], ◌∷◌, ◌++◌, Option, Some, None, if◌then◌else◌, cond, is_some, length, map, slice_get, refl, sym, ap, ◌∙◌, subst, arith}
use Rattle.std.specs.Prelude.{Result, Ok, Err, OnOk}
use Rattle.std.specs.Cmp.{IsEquivalence}
use Rattle.std.specs.List.{list_any}
use Rattle.std.specs.Map.{lookup, set_value}
use Rattle.std.specs.Option.{unwrap_or}
use Rattle.std.specs.Ordering.{MatchOrdering, is_eq, nat_cmp, ordering_then}
use Rattle.std.specs.declared.cmp.Ordering.{Ordering}
use Rattle.std.specs.declared.cmp.Ordering.TheVariants.{Less, Equal, Greater}
use Rattle.std.proofs.lemmas.Bool.{eq-eqb, eqb-true, ne_eqb}
use Rattle.std.proofs.lemmas.Cmp.{eq_by_cmp_equiv, ranked}
use Rattle.std.proofs.lemmas.List.{length-map, map-append}
use Rattle.std.proofs.lemmas.Map.{lookup-set_value}
use Rattle.bus_model.specs.Overheard.{same_who}
use Rattle.bus_model.specs.declared.who.Who.{Who}
use Rattle.bus_model.specs.declared.who.Who.TheVariants as who
use Rattle.can_frame.specs.declared.reading.Reading.{Reading}
use Rattle.dm_messages.specs.View.{same_kind}
use Rattle.dm_messages.specs.declared.kind.Kind.{Kind}
use Rattle.entry_lists.specs.Newest.{AreNewest, NewestKinds, NewestValue, newest_in, no_kinds, one_newer, with_newer}
use Rattle.entry_lists.proofs.Newer.{kinds_more, none_in, of_list}
use Rattle.listener.specs.NewestSent.{HasNewestOf, HasNewestSent, HasUnitOrder, KeepsOverheard, NewestSentValue, unit_key_of, newest_sent_of, same_unit_key, units_listed, units_overheard, unit_of_key, with_unit, with_unit_read}
use Rattle.listener.specs.ReadEntries.{EntryRead, lists_read, with_entry_read}
use Rattle.listener.specs.SentEntries.{HasTaken, entry_sent}
use Rattle.listener.specs.contracts.unit_key.UnitKeyOrd.TheImpl.Laws as key_laws
use Rattle.listener.specs.declared.entry.SentEntry.{SentEntry}
use Rattle.listener.specs.declared.unit_key.UnitKey.{UnitKey}
use Rattle.listener.specs.declared.unit_key.UnitKey.TheVariants as key

-- ---- units and their keys

key_equiv : IsEquivalence same_unit_key
key_equiv = eq_by_cmp_equiv key_laws.total-law

-- numbers that the order does not tell apart are equal
same_number : (n m : ℕ) → is_eq (nat_cmp n m) ≡ (n == m)
same_number n m = go (nat_cmp n m) (ranked n m (nat_cmp n m) refl)
  where
    go : (r : Ordering) → MatchOrdering r (n < m) (n ≡ m) (m < n) → is_eq r ≡ (n == m)
    go Less lt = sym (ne_eqb n m (λ e. omega (arith, lt, e)))
    go Equal e = sym (eq-eqb n m e)
    go Greater gt = sym (ne_eqb n m (λ e. omega (arith, gt, e)))

same_both : (r s : Ordering) → is_eq (ordering_then r s) ≡ (is_eq r && is_eq s)
same_both Less s = refl
same_both Equal s = refl
same_both Greater s = refl

-- they are equal alike
same_key_of : (u w : Who) → same_unit_key (unit_key_of u) (unit_key_of w) ≡ same_who u w
same_key_of (who.Named n) (who.Named m) = same_number n m
same_key_of (who.Named n) (who.Unclaimed b h) = refl
same_key_of (who.Unclaimed a g) (who.Named m) = refl
same_key_of (who.Unclaimed a g) (who.Unclaimed b h) = same_both (nat_cmp a b) (nat_cmp g h) ∙ (λ i. same_number a b i && same_number g h i)

key_of_who : (q : UnitKey) → unit_key_of (unit_of_key q) ≡ q
key_of_who (key.Named n) = refl
key_of_who (key.Unclaimed a g) = refl

pub who_of_key : (u : Who) → unit_of_key (unit_key_of u) ≡ u
who_of_key (who.Named n) = refl
who_of_key (who.Unclaimed a g) = refl

both : (b c : Bool) → (b && c) ≡ true → (b ≡ true) × (c ≡ true)
both true true e = (refl, refl)
both true false e = absurd cc
both false c e = absurd cc

-- and what is equal is the same
same_who_is : (u w : Who) → same_who u w ≡ true → u ≡ w
same_who_is (who.Named n) (who.Named m) e = ap (λ (v : ℕ). who.Named v) (eqb-true n m e)
same_who_is (who.Named n) (who.Unclaimed b h) e = absurd cc
same_who_is (who.Unclaimed a g) (who.Named m) e = absurd cc
same_who_is (who.Unclaimed a g) (who.Unclaimed b h) e =
    let both_are = both (a == b) (g == h) e in
    ap (λ (v : ℕ). who.Unclaimed v g) (eqb-true a b both_are.0) ∙ ap (λ (v : ℕ). who.Unclaimed b v) (eqb-true g h both_are.1)

-- ---- the lists

abbrev pub Lists : Type 0
Lists = List (UnitKey × NewestKinds EntryRead)

abbrev pub kept_under : Lists → Who → NewestKinds EntryRead
kept_under units w = unwrap_or (lookup (same_unit_key (unit_key_of w)) units) no_kinds

-- after a change of what is kept under one key
changed : (keep : ℕ) (units after : Lists) (u : Who) (kind : Kind) (e : EntryRead) (kinds new : NewestKinds EntryRead)
    → kept_under units u ≡ kinds → new ≡ with_newer keep kind e kinds
    → ((q : UnitKey) → lookup (same_unit_key q) after ≡ cond (same_unit_key (unit_key_of u) q) (Some new) (lookup (same_unit_key q) units))
    → (all : Who → Kind → List EntryRead) → ((w : Who) (k : Kind) → AreNewest keep (all w k) (newest_in (kept_under units w) k))
    → (w : Who) (k : Kind) → AreNewest keep (if same_who u w && same_kind kind k then all w k ++ e ∷ [] else all w k) (newest_in (kept_under after w) k)
changed keep units after u kind e kinds new was one looked all kept w k =
    subst (λ (x : NewestValue EntryRead). AreNewest keep (if same_who u w && same_kind kind k then all w k ++ e ∷ [] else all w k) x)
    (sym (ap (λ (x : NewestKinds EntryRead). newest_in x k) (found ∙ is (same_who u w) refl) ∙ of_kind (same_who u w)))
    (of_list keep (same_who u w) (same_kind kind k) e (all w k) (newest_in (kept_under units w) k) (kept w k))
  where
    found : kept_under after w ≡ unwrap_or (cond (same_who u w) (Some new) (lookup (same_unit_key (unit_key_of w)) units)) no_kinds
    found =
        ap (λ (o : Option (NewestKinds EntryRead)). unwrap_or o no_kinds)
        (looked (unit_key_of w) ∙ ap (λ (b : Bool). cond b (Some new) (lookup (same_unit_key (unit_key_of w)) units)) (same_key_of u w))

    is : (b : Bool) → same_who u w ≡ b → unwrap_or (cond b (Some new) (lookup (same_unit_key (unit_key_of w)) units)) no_kinds
        ≡ (if b then with_newer keep kind e (kept_under units w) else kept_under units w)
    is false i = refl
    is true i =
        one ∙ ap (with_newer keep kind e) (sym was ∙ ap (kept_under units) (same_who_is u w i))

    of_kind : (b : Bool) → newest_in (if b then with_newer keep kind e (kept_under units w) else kept_under units w) k
        ≡ (if b then (if same_kind kind k then one_newer keep e (newest_in (kept_under units w) k) else newest_in (kept_under units w) k) else newest_in (kept_under units w) k)
    of_kind true = kinds_more keep kind k e (kept_under units w)
    of_kind false = refl

-- what is found once the lists of a unit that has some are others
found_set : (units : Lists) (q : UnitKey) (kinds new : NewestKinds EntryRead) → lookup (same_unit_key q) units ≡ Some kinds
    → (p : UnitKey) → lookup (same_unit_key p) (set_value (same_unit_key q) units new) ≡ cond (same_unit_key q p) (Some new) (lookup (same_unit_key p) units)
found_set units q kinds new there p =
    lookup-set_value key_equiv (same_unit_key q) (λ x y h. key_equiv.congr q x y h) p new units (rw (there) refl)

-- ---- the units that have had entries

same_key_listed : (u : Who) (k : UnitKey) → same_unit_key (unit_key_of u) k ≡ same_who u (unit_of_key k)
same_key_listed u (key.Named m) = same_key_of u (who.Named m)
same_key_listed u (key.Unclaimed b h) = same_key_of u (who.Unclaimed b h)

among : (order : List UnitKey) (u : Who) → list_any (same_unit_key (unit_key_of u)) order ≡ list_any (same_who u) (map unit_of_key order)
among [] u = refl
among (q ∷ order) u = (λ i. same_key_listed u q i || among order u i)

has_lists : (order : List UnitKey) (units : Lists) (u : Who) → HasUnitOrder order units → is_some (lookup (same_unit_key (unit_key_of u)) units) ≡ list_any (same_who u) (map unit_of_key order)
has_lists order units u has = sym (has (unit_key_of u)) ∙ among order u

-- one that has some keeps its place
units_kept : (order : List UnitKey) (units : Lists) (u : Who) (kinds : NewestKinds EntryRead) → HasUnitOrder order units → lookup (same_unit_key (unit_key_of u)) units ≡ Some kinds
    → map unit_of_key order ≡ with_unit u (map unit_of_key order)
units_kept order units u kinds has there =
    let is : list_any (same_who u) (map unit_of_key order) ≡ true = sym (has_lists order units u has) ∙ ap is_some there in
    sym (ap (λ (b : Bool). if b then map unit_of_key order else map unit_of_key order ++ u ∷ []) is)

-- one that had none goes last
pub units_more : (order after : List UnitKey) (units : Lists) (q : UnitKey) → HasUnitOrder order units → lookup (same_unit_key q) units ≡ None
    → after ≡ order ++ q ∷ [] → map unit_of_key after ≡ with_unit (unit_of_key q) (map unit_of_key order)
units_more order after units q has none added =
    let is : list_any (same_who (unit_of_key q)) (map unit_of_key order) ≡ false =
    sym (has_lists order units (unit_of_key q) has) ∙ (ap (λ (p : UnitKey). is_some (lookup (same_unit_key p) units)) (key_of_who q) ∙ ap is_some none) in
    ap (map unit_of_key) added
    ∙ (map-append unit_of_key order (q ∷ [])
    ∙ sym (ap (λ (b : Bool). if b then map unit_of_key order else map unit_of_key order ++ unit_of_key q ∷ []) is))

is_some_set : (b : Bool) (new : NewestKinds EntryRead) (o : Option (NewestKinds EntryRead)) → (b ≡ true → is_some o ≡ true) → is_some (cond b (Some new) o) ≡ is_some o
is_some_set true new o there = sym (there refl)
is_some_set false new o there = refl

pub order_kept : (order : List UnitKey) (units : Lists) (q : UnitKey) (kinds new : NewestKinds EntryRead) → HasUnitOrder order units
    → lookup (same_unit_key q) units ≡ Some kinds → HasUnitOrder order (set_value (same_unit_key q) units new)
order_kept order units q kinds new has there p =
    has p ∙ sym (ap is_some (found_set units q kinds new there p) ∙ is_some_set (same_unit_key q p) new (lookup (same_unit_key p) units) (λ e. ap is_some (sym (same e units) ∙ there)))
  where
    same : same_unit_key q p ≡ true → (es : Lists) → lookup (same_unit_key q) es ≡ lookup (same_unit_key p) es
    same e [] = refl
    same e (x ∷ es) = (λ i. cond (key_equiv.congr q p x.0 e i) (Some x.1) (same e es i))

pub order_more : (order after_order : List UnitKey) (units after : Lists) (q : UnitKey) (new : NewestKinds EntryRead) → HasUnitOrder order units
    → ((p : UnitKey) → lookup (same_unit_key p) after ≡ cond (same_unit_key q p) (Some new) (lookup (same_unit_key p) units))
    → after_order ≡ order ++ q ∷ [] → HasUnitOrder after_order after
order_more order after_order units after q new has looked added p =
    ap (list_any (same_unit_key p)) added ∙ (last order ∙ (ap (λ (b : Bool). b || same_unit_key p q) (has p)
    ∙ (ap (λ (b : Bool). is_some (lookup (same_unit_key p) units) || b) (key_equiv.symm p q) ∙ (one (same_unit_key q p) (lookup (same_unit_key p) units) ∙ ap is_some (sym (looked p))))))
  where
    or_false : (b : Bool) → (b || false) ≡ b
    or_false true = refl
    or_false false = refl

    or_assoc : (b c d : Bool) → (b || (c || d)) ≡ ((b || c) || d)
    or_assoc true c d = refl
    or_assoc false c d = refl

    last : (l : List UnitKey) → list_any (same_unit_key p) (l ++ q ∷ []) ≡ (list_any (same_unit_key p) l || same_unit_key p q)
    last [] = or_false (same_unit_key p q)
    last (x ∷ l) = ap (λ (b : Bool). same_unit_key p x || b) (last l) ∙ or_assoc (same_unit_key p x) (list_any (same_unit_key p) l) (same_unit_key p q)

    one : (b : Bool) (o : Option (NewestKinds EntryRead)) → (is_some o || b) ≡ is_some (cond b (Some new) o)
    one true (Some x) = refl
    one true None = refl
    one false (Some x) = refl
    one false None = refl

-- ---- an entry that is put

-- the first one of a unit
pub begun : (before after : NewestSentValue) (q : UnitKey) (kind : Kind) (e : EntryRead) (new : NewestKinds EntryRead)
    → lookup (same_unit_key q) before.units ≡ None → new ≡ with_newer before.keep kind e no_kinds
    → after.keep ≡ before.keep → units_listed after ≡ with_unit (unit_of_key q) (units_listed before)
    → ((p : UnitKey) → lookup (same_unit_key p) after.units ≡ cond (same_unit_key q p) (Some new) (lookup (same_unit_key p) before.units))
    → HasNewestOf (unit_of_key q) kind e before after
begun before after q kind e new none one keep units looked = record {
  keep = keep;
  units = units;
  lists = λ all kept w k.
      subst (λ (n : ℕ). AreNewest n (if same_who (unit_of_key q) w && same_kind kind k then all w k ++ e ∷ [] else all w k) (newest_sent_of after w k)) (sym keep)
      (changed before.keep before.units after.units (unit_of_key q) kind e no_kinds new
      (ap (λ (p : UnitKey). unwrap_or (lookup (same_unit_key p) before.units) no_kinds) (key_of_who q) ∙ ap (λ (o : Option (NewestKinds EntryRead)). unwrap_or o no_kinds) none) one
      (λ p. looked p ∙ ap (λ (r : UnitKey). cond (same_unit_key r p) (Some new) (lookup (same_unit_key p) before.units)) (sym (key_of_who q))) all kept w k);
}

-- one more of a unit that has had some
pub lengthened : (keep : ℕ) (order : List UnitKey) (units after : Lists) (q : UnitKey) (u : Who) (kind : Kind) (e : EntryRead) (kinds new : NewestKinds EntryRead)
    → HasUnitOrder order units → q ≡ unit_key_of u → lookup (same_unit_key q) units ≡ Some kinds → new ≡ with_newer keep kind e kinds → after ≡ set_value (same_unit_key q) units new
    → HasNewestOf u kind e (record { keep = keep; order = order; units = units }) (record { keep = keep; order = order; units = after })
lengthened keep order units after q u kind e kinds new has is some one set =
    let there : lookup (same_unit_key (unit_key_of u)) units ≡ Some kinds = ap (λ (p : UnitKey). lookup (same_unit_key p) units) (sym is) ∙ some in
    let put : after ≡ set_value (same_unit_key (unit_key_of u)) units new = set ∙ ap (λ (p : UnitKey). set_value (same_unit_key p) units new) is in
    record {
      keep = refl;
      units = units_kept order units u kinds has there;
      lists = λ all kept w k.
          changed keep units after u kind e kinds new (ap (λ (o : Option (NewestKinds EntryRead)). unwrap_or o no_kinds) there) one
          (λ p. ap (λ (l : Lists). lookup (same_unit_key p) l) put ∙ found_set units (unit_key_of u) kinds new there p) all kept w k;
    }

pub on_ok : {T E P Q : Type 0} (r : Result T E) → (P → Q) → OnOk r P → OnOk r Q
on_ok (Ok v) f h = f h
on_ok (Err e) f h = tt

-- ---- over what was read

pub none_overheard : (keep : ℕ) → KeepsOverheard (record { keep = keep; order = []; units = [] }) []
none_overheard keep = record { newest = λ w k. none_in keep k; units = refl }

pub units_as_overheard : (lists : NewestSentValue) (h : List Reading) → KeepsOverheard lists h → length lists.order ≡ length (units_overheard h)
units_as_overheard lists h kept = sym (length-map lists.order unit_of_key) ∙ ap length kept.units

pub unit_as_overheard : (lists : NewestSentValue) (h : List Reading) (place : ℕ) → KeepsOverheard lists h → slice_get (units_listed lists) place ≡ slice_get (units_overheard h) place
unit_as_overheard lists h place kept = ap (λ (us : List Who). slice_get us place) kept.units

-- with the entry that a reading lists, if it lists one, the lists are those of the readings with it
pub overheard_more : (before after : NewestSentValue) (x : Reading) (h : List Reading)
    → HasTaken HasNewestSent before (entry_sent x h) after → KeepsOverheard before h → KeepsOverheard after (x ∷ h)
overheard_more before after x h taken kept = record { newest = newest (entry_sent x h) taken; units = units (entry_sent x h) taken }
  where
    newest : (e : Option SentEntry) → HasTaken HasNewestSent before e after → (w : Who) (k : Kind) → AreNewest after.keep (with_entry_read e (lists_read h) w k) (newest_sent_of after w k)
    newest None same w k = subst (λ (l : NewestSentValue). AreNewest l.keep (lists_read h w k) (newest_sent_of l w k)) (sym same) (kept.newest w k)
    newest (Some e) put w k = put.lists (lists_read h) kept.newest w k

    units : (e : Option SentEntry) → HasTaken HasNewestSent before e after → units_listed after ≡ with_unit_read e (units_overheard h)
    units None same = ap units_listed same ∙ kept.units
    units (Some e) put = put.units ∙ ap (with_unit e.who) kept.units

pub keep_same : (before after : NewestSentValue) (e : Option SentEntry) → HasTaken HasNewestSent before e after → after.keep ≡ before.keep
keep_same before after None same = ap (λ (l : NewestSentValue). l.keep) same
keep_same before after (Some e) put = put.keep
