-- The claims that are told of a station's or a listener's units: by whom, of which addresses, and what is heard of owners by them.
use Rattle.std.proofs.Common.{◌≡◌, ◌+◌, ◌<◌, ◌≤◌, ◌^◌, ◌==◌, ◌++◌, ℕ, Bool, true, false, zero, suc, List, [], ◌∷◌, Option, Some, None, IfSome, if◌then◌else◌, length, map, take, nat_eq, refl, sym, ap, ◌∙◌, subst, arith}
use Rattle.std.proofs.lemmas.Bool.{eqb-true, eq-eqb, le-leb, lt-leb, ne_eqb}
use Rattle.std.proofs.lemmas.List.{length-map, take_all, take_more}
use Rattle.std.proofs.lemmas.Option.{slice_get-get_or, slice_get_within}
use Rattle.std.specs.Prelude.{slice_get}
use Rattle.address_claim.specs.Claiming.{ClaimerValue, after_claim, is_held}
use Rattle.address_claim.specs.Frames.{claim_frame_value}
use Rattle.bus_model.proofs.Bridge.{says_claim}
use Rattle.bus_model.proofs.Lookback.{held_is}
use Rattle.bus_model.specs.Heard.{StationSettings, claimer_after, owner_heard}
use Rattle.bus_model.specs.Traffic.{owner_after}
use Rattle.can_frame.specs.FrameValue.{FrameValue}
use Rattle.can_frame.specs.declared.address.TheConstants.{GREATEST_ADDRESS}
use Rattle.can_frame.specs.declared.reading.Reading.{Reading}
use Rattle.can_frame.specs.declared.reading.Reading.TheVariants.{Frame}
use Rattle.entry_lists.specs.KeptValue.{KeptValue, kept_under}
use Rattle.entry_lists.specs.KnownRows.{address_in, row_of, still_owned}
use Rattle.listener.specs.ListenerValue.{gaps_alone}
use Rattle.live_station.specs.Ear.{frames_told, is_untold_after}
use Rattle.parameter_group.specs.Group.{Group, group_of}
use Rattle.reassembly.specs.Tables.{at}
use Rattle.station_c.specs.Anew.{IsClaimBeside, IsClaimOf, IsOwners, KeepsOwners, but, claim_told, holds, with_claims_of, with_frame}

-- ---- an address, if it is another one

pub but_own : (own a : ℕ) (o : Option ℕ) → o ≡ Some a → own ≡ a → None ≡ but own o
but_own own a o some e = sym (ap (λ (x : Option ℕ). but own x) some ∙ ap (λ (b : Bool). if b then None else Some a) (eq-eqb own a e))

pub but_other : (own a : ℕ) (o : Option ℕ) → o ≡ Some a → (own ≡ a → ⊥) → o ≡ but own o
but_other own a o some e = some ∙ sym (ap (λ (x : Option ℕ). but own x) some ∙ ap (λ (b : Bool). if b then None else Some a) (ne_eqb own a e))

but_is : (own : ℕ) (o : Option ℕ) (a : ℕ) → but own o ≡ Some a → (o ≡ Some a) × (nat_eq own a ≡ false)
but_is own None a e = absurd (cc e)
but_is own (Some x) a e = go (nat_eq own x) refl e
  where
    go : (b : Bool) → nat_eq own x ≡ b → (if b then None else Some x) ≡ Some a → (Some x ≡ Some a) × (nat_eq own a ≡ false)
    go true t f = absurd (cc f)
    go false t f = (f, (let same : x ≡ a = cc f in subst (λ (y : ℕ). nat_eq own y ≡ false) same t))

-- ---- the claim that is told of a NAME

pub claim_is : (n a : ℕ) (held : Option ℕ) (f : FrameValue) → held ≡ Some a → a ≤ GREATEST_ADDRESS → f ≡ claim_frame_value n (Some a) → Some f ≡ claim_told n held
claim_is n a held f some le frame =
    ap (λ (g : FrameValue). Some g) frame
    ∙ sym (ap (λ (o : Option ℕ). claim_told n o) some ∙ ap (λ (b : Bool). if b then Some (claim_frame_value n (Some a)) else None) (le-leb a GREATEST_ADDRESS le))

pub far_told : (n a : ℕ) (held : Option ℕ) → held ≡ Some a → (a ≤ GREATEST_ADDRESS → ⊥) → None ≡ claim_told n held
far_told n a held some far =
    sym (ap (λ (o : Option ℕ). claim_told n o) some ∙ ap (λ (b : Bool). if b then Some (claim_frame_value n (Some a)) else None) (lt-leb a GREATEST_ADDRESS (omega (arith, far))))

pub none_told : (n : ℕ) (held : Option ℕ) → held ≡ None → None ≡ claim_told n held
none_told n held none = sym (ap (λ (o : Option ℕ). claim_told n o) none)

pub claim_says : (n a : ℕ) (held : Option ℕ) (f : FrameValue) → held ≡ Some a → a ≤ GREATEST_ADDRESS → f ≡ claim_frame_value n (Some a) → n < 2 ^ 64 → IsClaimOf n held f
claim_says n a held f some le frame small =
    record { address = a; held_is = some; says = ap (λ (g : FrameValue). group_of g) frame ∙ says_claim n (Some a) small le }

-- ---- whose it is

still_is : (owners : List (Option ℕ)) (name : ℕ) (claimed : Option ℕ) (a : ℕ) → still_owned owners name claimed ≡ Some a → at owners a ≡ Some name
still_is owners name None a e = absurd (cc e)
still_is owners name (Some x) a e = go (is_held (at owners x) name) refl e
  where
    go : (b : Bool) → is_held (at owners x) name ≡ b → (if b then Some x else None) ≡ Some a → at owners a ≡ Some name
    go true t f = (let same : x ≡ a = cc f in subst (λ (y : ℕ). at owners y ≡ Some name) same (held_is (at owners x) name t))
    go false t f = absurd (cc f)

holds_owned : (owners : List (Option ℕ)) (rows : List (ℕ × KeptValue)) (name a : ℕ) → holds owners rows name ≡ Some a → at owners a ≡ Some name
holds_owned owners rows name a e = go (kept_under rows name) e
  where
    go : (k : Option KeptValue) → address_in (row_of owners name k) ≡ Some a → at owners a ≡ Some name
    go None f = absurd (cc f)
    go (Some kept) f = still_is owners name kept.claimed a f

pub owned : (owners : List (Option ℕ)) (rows : List (ℕ × KeptValue)) (name : ℕ) (held : Option ℕ) (o : Option FrameValue) → held ≡ holds owners rows name
    → IfSome o (λ f. IsClaimOf name held f) → IfSome o (λ f. IsOwners owners f)
owned owners rows name held None e is = is
owned owners rows name held (Some f) e is =
    record { address = is.address; name = name; says = is.says; owned = holds_owned owners rows name is.address (sym e ∙ is.held_is) }

pub owned_beside : (owners : List (Option ℕ)) (rows : List (ℕ × KeptValue)) (name own : ℕ) (held : Option ℕ) (o : Option FrameValue) → held ≡ but own (holds owners rows name)
    → IfSome o (λ f. IsClaimOf name held f) → IfSome o (λ f. IsOwners owners f)
owned_beside owners rows name own held None e is = is
owned_beside owners rows name own held (Some f) e is = record {
  address = is.address;
  name = name;
  says = is.says;
  owned = holds_owned owners rows name is.address ((but_is own (holds owners rows name) is.address (sym e ∙ is.held_is)).0);
}

pub beside_own : (name own : ℕ) (any held : Option ℕ) (o : Option FrameValue) → held ≡ but own any → IfSome o (λ f. IsClaimOf name held f) → IfSome o (λ f. IsClaimBeside own f)
beside_own name own any held None e is = is
beside_own name own any held (Some f) e is =
    record { address = is.address; name = name; says = is.says; other = (but_is own any is.address (sym e ∙ is.held_is)).1 }

-- ---- claims that are told one after the other

with_claims_more : (claim : ℕ → Option FrameValue) (names : List ℕ) (n : ℕ) (h : List Reading) → with_claims_of claim (names ++ n ∷ []) h ≡ with_frame (claim n) (with_claims_of claim names h)
with_claims_more claim [] n h = refl
with_claims_more claim (name ∷ names) n h = with_claims_more claim names n (with_frame (claim name) h)

take_one_more : (xs : List ℕ) (i x : ℕ) → slice_get xs i ≡ Some x → take (i + 1) xs ≡ take i xs ++ x ∷ []
take_one_more xs i x e =
    take_more xs i x (slice_get_within xs i x e) ∙ ap (λ y. take i xs ++ y ∷ []) (cc (e, slice_get-get_or xs i x (slice_get_within xs i x e)))

claim_more : (claim : ℕ → Option FrameValue) (names : List ℕ) (i n : ℕ) (h : List Reading) → slice_get names i ≡ Some n
    → with_frame (claim n) (with_claims_of claim (take i names) h) ≡ with_claims_of claim (take (i + 1) names) h
claim_more claim names i n h at = sym (ap (λ ns. with_claims_of claim ns h) (take_one_more names i n at) ∙ with_claims_more claim (take i names) n h)

-- what stands for the claims before the place stands then for one more
pub more_told : (P Q : List Reading → Type 0) (claim : ℕ → Option FrameValue) (names : List ℕ) (i n : ℕ) (told : Option FrameValue) (first : List Reading)
    → slice_get names i ≡ Some n → told ≡ claim n
    → ((h : List Reading) → P h → Q (with_frame told h)) → P (with_claims_of claim (take i names) first) → Q (with_claims_of claim (take (i + 1) names) first)
more_told P Q claim names i n told first at is tells before =
    subst (λ (h : List Reading). Q h)
    (ap (λ (o : Option FrameValue). with_frame o (with_claims_of claim (take i names) first)) is ∙ claim_more claim names i n first at)
    (tells (with_claims_of claim (take i names) first) before)

-- all were told, behind the last place
pub claims_all : (claim : ℕ → Option FrameValue) (rows : List (ℕ × KeptValue)) (place n : ℕ) (h : List Reading) → n ≤ place → place ≤ n → n ≡ length rows
    → with_claims_of claim (take place (map (λ e. e.0) rows)) h ≡ with_claims_of claim (map (λ e. e.0) rows) h
claims_all claim rows place n h low high e = ap (λ ns. with_claims_of claim ns h) (take_all place (map (λ e. e.0) rows) (omega (arith, length-map rows (λ e. e.0), e, low, high)))

-- within the list there is a NAME
pub name_is_there : {P : Type 0} (rows : List (ℕ × KeptValue)) (i n : ℕ) → i < n → n ≡ length rows → None ≡ slice_get (map (λ e. e.0) rows) i → P
name_is_there rows i n l e none = absurd (cc (none, slice_get-get_or (map (λ e. e.0) rows) i 0 (omega (arith, length-map rows (λ e. e.0), l, e))))

-- ---- what is heard of owners

owner_more : (owners : List (Option ℕ)) (f : FrameValue) (h : List Reading) → IsOwners owners f → KeepsOwners owners h → KeepsOwners owners (Frame f ∷ h)
owner_more owners f h is keeps a n l e =
    go (is.address == a) refl (subst (λ (g : Group). owner_after a g (owner_heard a h) ≡ Some n) is.says e)
  where
    go : (b : Bool) → (is.address == a) ≡ b → (if b then Some is.name else owner_heard a h) ≡ Some n → at owners a ≡ Some n
    go true t f = (let same : is.address ≡ a = eqb-true is.address a t in subst (λ (y : ℕ). at owners y ≡ Some is.name) same is.owned) ∙ f
    go false t f = keeps a n l f

pub owners_more : (owners : List (Option ℕ)) (o : Option FrameValue) (h : List Reading) → IfSome o (λ f. IsOwners owners f) → KeepsOwners owners h → KeepsOwners owners (with_frame o h)
owners_more owners None h is keeps = keeps
owners_more owners (Some f) h is keeps = owner_more owners f h is keeps

pub owners_told : (r : StationSettings) (owners : List (Option ℕ)) (o : Option FrameValue) (h : List Reading) → IfSome o (λ f. IsOwners owners f) → KeepsOwners owners (frames_told r h)
    → KeepsOwners owners (frames_told r (with_frame o h))
owners_told r owners None h is keeps = keeps
owners_told r owners (Some f) h is keeps = go (is_untold_after r (frames_told r h) f)
  where
    go : (b : Bool) → KeepsOwners owners (if b then frames_told r h else Frame f ∷ frames_told r h)
    go true = keeps
    go false = owner_more owners f (frames_told r h) is keeps

-- by one claim more of those that are told one after the other
pub owners_next : (owners : List (Option ℕ)) (claim : ℕ → Option FrameValue) (names : List ℕ) (i n : ℕ) (o : Option FrameValue) (first : List Reading)
    → slice_get names i ≡ Some n → o ≡ claim n → IfSome o (λ f. IsOwners owners f)
    → KeepsOwners owners (with_claims_of claim (take i names) first) → KeepsOwners owners (with_claims_of claim (take (i + 1) names) first)
owners_next owners claim names i n o first at is owned before =
    more_told (λ (h : List Reading). KeepsOwners owners h) (λ (h : List Reading). KeepsOwners owners h) claim names i n o first at is
    (λ h keeps. owners_more owners o h owned keeps) before

pub told_next : (r : StationSettings) (owners : List (Option ℕ)) (claim : ℕ → Option FrameValue) (names : List ℕ) (i n : ℕ) (o : Option FrameValue) (first : List Reading)
    → slice_get names i ≡ Some n → o ≡ claim n → IfSome o (λ f. IsOwners owners f)
    → KeepsOwners owners (frames_told r (with_claims_of claim (take i names) first)) → KeepsOwners owners (frames_told r (with_claims_of claim (take (i + 1) names) first))
told_next r owners claim names i n o first at is owned before =
    more_told (λ (h : List Reading). KeepsOwners owners (frames_told r h)) (λ (h : List Reading). KeepsOwners owners (frames_told r h)) claim names i n o first at is
    (λ h keeps. owners_told r owners o h owned keeps) before

pub nobody_owns : (owners : List (Option ℕ)) → KeepsOwners owners []
nobody_owns owners a n l e = absurd (cc e)

pub gaps_own_nothing : (owners : List (Option ℕ)) (n : ℕ) → KeepsOwners owners (gaps_alone n)
gaps_own_nothing owners zero a n l e = absurd (cc e)
gaps_own_nothing owners (suc m) a n l e = absurd (cc e)

-- ---- what is held

not_held : (own a : ℕ) (held : Option ℕ) → held ≡ Some own → nat_eq own a ≡ false → is_held held a ≡ false
not_held own a held some other = ap (λ (o : Option ℕ). is_held o a) some ∙ other

-- a claim of another address leaves it
pub unmoved : (own a n : ℕ) (c : ClaimerValue) → c.held ≡ Some own → nat_eq own a ≡ false → (after_claim a n c).held ≡ Some own
unmoved own a n c some other = rw (not_held own a c.held some other) some

pub unmoved_by : (own : ℕ) (c : ClaimerValue) (f : FrameValue) → IsClaimBeside own f → c.held ≡ Some own → (claimer_after (group_of f) c).held ≡ Some own
unmoved_by own c f is some =
    ap (λ (g : Group). (claimer_after g c).held) is.says ∙ unmoved own is.address is.name c some is.other
