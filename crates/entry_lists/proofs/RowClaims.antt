-- What a row says after a claim, an acknowledgment or a gap.
use Rattle.std.proofs.Common.{◌≡◌, ℕ, ◌<◌, Bool, true, false, ◌==◌, List, Option, Some, None, if◌then◌else◌, unwrap_or, length, map, refl, sym, ap, ◌∙◌, subst}
use Rattle.std.specs.Prelude.{slice_set}
use Rattle.std.specs.Option.{option_map}
use Rattle.std.proofs.lemmas.Bool.{eq-eqb, eqb-true, ne_eqb}
use Rattle.address_claim.specs.Claiming.{is_held}
use Rattle.bus_model.specs.Heard.{AckHeard, RowHeard, ack_in_row, address_in_row, addressless, row_with_ack as with_ack_heard, with_name, without_address}
use Rattle.reassembly.specs.Tables.{at, empty_table}
use Rattle.reassembly.specs.TableLaws.{at-empty, at-set}
use Rattle.entry_lists.specs.KeptValue.{KeptValue, changed_under, kept_under, nothing_kept, with_ack, with_claimed, with_row}
use Rattle.entry_lists.specs.KnownRows.{ack_known, address_in, row_heard_as, row_known, row_of, still_owned}
use Rattle.entry_lists.proofs.RowLemmas.{kept_under-changed, kept_under-with_row, named, names-changed, names-with_row}

-- an acknowledgment goes to the row alone
pub row_acknowledged : (owners : List (Option ℕ)) (n control pgn : ℕ) (o : Option KeptValue)
    → row_known owners n (option_map (with_ack (record { control = control; pgn = pgn })) o) ≡ with_ack_heard control pgn (row_known owners n o)
row_acknowledged owners n control pgn None = refl
row_acknowledged owners n control pgn (Some x) = refl

-- what is kept once a NAME has claimed: a row, with the address claimed
pub kept_once_claimed : (a : Option ℕ) (rows : List (ℕ × KeptValue)) (m n : ℕ)
    → kept_under (changed_under (with_claimed a) (with_row rows m) m) n
    ≡ (if m == n then Some (with_claimed a (unwrap_or (kept_under rows n) nothing_kept)) else kept_under rows n)
kept_once_claimed a rows m n = kept_under-changed (with_claimed a) (with_row rows m) m n ∙ (rw (kept_under-with_row rows m n) (go (m == n)))
  where
    go : (b : Bool)
        → (if b then option_map (with_claimed a) (if b then Some (unwrap_or (kept_under rows n) nothing_kept) else kept_under rows n)
        else (if b then Some (unwrap_or (kept_under rows n) nothing_kept) else kept_under rows n))
        ≡ (if b then Some (with_claimed a (unwrap_or (kept_under rows n) nothing_kept)) else kept_under rows n)
    go true = refl
    go false = refl

pub names_once_claimed : (a : Option ℕ) (rows : List (ℕ × KeptValue)) (m : ℕ) → map named (changed_under (with_claimed a) (with_row rows m) m) ≡ with_name m (map named rows)
names_once_claimed a rows m = names-changed (with_claimed a) (with_row rows m) m ∙ names-with_row rows m

ack_unclaimed : (owners : List (Option ℕ)) (n : ℕ) (o : Option KeptValue) → ack_known (unwrap_or o nothing_kept).ack ≡ ack_in_row (row_known owners n o)
ack_unclaimed owners n None = refl
ack_unclaimed owners n (Some x) = refl

-- a NAME that cannot claim has no address
pub no_address : (owners : List (Option ℕ)) (n : ℕ) (o : Option KeptValue)
    → row_known owners n (Some (with_claimed None (unwrap_or o nothing_kept))) ≡ Some (record { address = None; ack = ack_in_row (row_known owners n o) })
no_address owners n None = refl
no_address owners n (Some x) = refl

-- the owners once an address was claimed
owner_now : (owners : List (Option ℕ)) (src m a : ℕ) → length owners ≡ 256 → src < 256 → at (slice_set owners src (Some m)) a ≡ (if src == a then Some m else at owners a)
owner_now owners src m a len lt = at-set owners src a (Some m) (subst (λ (x : ℕ). src < x) (sym len) lt)

-- the row of a NAME that claims an address
pub row_of_claimant : (owners : List (Option ℕ)) (src m n : ℕ) (o : Option KeptValue) → length owners ≡ 256 → src < 256 → (m == n) ≡ true
    → row_known (slice_set owners src (Some m)) n (Some (with_claimed (Some src) (unwrap_or o nothing_kept)))
    ≡ Some (record { address = Some src; ack = ack_in_row (row_known owners n o) })
row_of_claimant owners src m n o len lt same =
    let mine : at (slice_set owners src (Some m)) src ≡ Some m = owner_now owners src m src len lt ∙ (rw (eq-eqb src src refl) refl) in
    rw (mine, same, ack_unclaimed owners n o) refl

other_way : (p q : ℕ) → (p == q) ≡ false → (q == p) ≡ false
other_way p q e = ne_eqb q p (λ f. let g : (p == q) ≡ true = eq-eqb p q (sym f) in absurd cc)

-- a row with this address and acknowledgment
abbrev row_with : Option ℕ → Option AckHeard → RowHeard
row_with a ack = record { address = a; ack = ack }

-- an address that is claimed under another NAME
lost_address : (src a n m : ℕ) (own : Option ℕ) (ack : Option AckHeard) (b c : Bool) → (m == n) ≡ false → (src == a) ≡ b → is_held own n ≡ c
    → row_with (if is_held (if b then Some m else own) n then Some a else None) ack
    ≡ (if is_held (if c then Some a else None) src then row_with None ack else row_with (if c then Some a else None) ack)
lost_address src a n m own ack true false apart i j = rw (apart) refl
lost_address src a n m own ack true true apart i j = rw (apart, eq-eqb a src (sym (eqb-true src a i))) refl
lost_address src a n m own ack false false apart i j = rw (j) refl
lost_address src a n m own ack false true apart i j = rw (j, other_way src a i) refl

if_some : {X : Type 0} (b : Bool) (x y : X) → Some (if b then x else y) ≡ (if b then Some x else Some y)
if_some true x y = refl
if_some false x y = refl

lost_claimed : (owners : List (Option ℕ)) (src m n : ℕ) (ack : Option AckHeard) (c : Option ℕ) → length owners ≡ 256 → src < 256 → (m == n) ≡ false
    → row_with (still_owned (slice_set owners src (Some m)) n c) ack
    ≡ (if is_held (still_owned owners n c) src then row_with None ack else row_with (still_owned owners n c) ack)
lost_claimed owners src m n ack None len lt apart = refl
lost_claimed owners src m n ack (Some a) len lt apart =
    rw (owner_now owners src m a len lt) (lost_address src a n m (at owners a) ack (src == a) (is_held (at owners a) n) apart refl refl)

-- the row of another NAME loses the address if it has this one
pub row_of_other : (owners : List (Option ℕ)) (src m n : ℕ) (o : Option KeptValue) → length owners ≡ 256 → src < 256 → (m == n) ≡ false
    → row_known (slice_set owners src (Some m)) n o ≡ without_address src (row_known owners n o)
row_of_other owners src m n None len lt apart = refl
row_of_other owners src m n (Some x) len lt apart =
    ap (λ (v : RowHeard). Some v) (lost_claimed owners src m n (ack_known x.ack) x.claimed len lt apart)
    ∙ if_some (is_held (still_owned owners n x.claimed) src) (row_with None (ack_known x.ack)) (row_with (still_owned owners n x.claimed) (ack_known x.ack))

-- the address in a row
pub address_words : (owners : List (Option ℕ)) (name : ℕ) (k : Option KeptValue) → address_in (row_of owners name k) ≡ address_in_row (row_known owners name k)
address_words owners name None = refl
address_words owners name (Some k) = refl

-- the row that is shown, in the words of what was heard
pub row_words : (owners : List (Option ℕ)) (name : ℕ) (k : Option KeptValue) → option_map row_heard_as (row_of owners name k) ≡ row_known owners name k
row_words owners name None = refl
row_words owners name (Some k) = refl

-- where frames were missed
pub addressless_row : (n : ℕ) (owners : List (Option ℕ)) (o : Option KeptValue) → row_known empty_table n o ≡ addressless (row_known owners n o)
addressless_row n owners None = refl
addressless_row n owners (Some x) = go x.claimed
  where
    go : (c : Option ℕ) → ◌≡◌ {A = Option RowHeard} (Some (record { address = still_owned empty_table n c; ack = ack_known x.ack })) (Some (record { address = None; ack = ack_known x.ack }))
    go None = refl
    go (Some a) = rw (at-empty {X = ℕ} a) refl
