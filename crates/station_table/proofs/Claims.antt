-- After a claim or an acknowledgment, the tables have at each address what was then heard of it.
use Rattle.std.proofs.Common.{◌≡◌, ℕ, ◌<◌, Bool, true, false, ◌==◌, not, ◌&&◌, ◌||◌, List, Option, Some, None, if◌then◌else◌, unwrap_or, length, map, refl, sym, ap, ◌∙◌, subst}
use Rattle.std.specs.Prelude.{slice_set, nat_lt}
use Rattle.std.specs.Option.{option_map}
use Rattle.std.proofs.lemmas.Bool.{eq-eqb, eqb-true, ne_eqb}
use Rattle.std.proofs.lemmas.List.{length-set}
use Rattle.address_claim.specs.Claiming.{ClaimerValue, is_held, claim_step, move_step, next_address, noted_after}
use Rattle.address_claim.specs.declared.claimer.ClaimStep.{ClaimStep}
use Rattle.address_claim.specs.declared.claimer.ClaimStep.TheVariants.{Nothing, Defend, Move, CannotClaim as NoAddress}
use Rattle.can_frame.specs.declared.reading.Reading.{Reading}
use Rattle.parameter_group.specs.Group.{AddressClaimed, CannotClaim, Acknowledgment}
use Rattle.parameter_group.specs.Calm.{is_contest}
use Rattle.bus_model.specs.Heard.{StationSettings, Joining, without_address, row_with_ack as with_ack_heard, is_answer, ack_in_row, owner_heard, address_heard, broadcast_heard, session_heard, row_heard, with_name, kept_by_owner as joining_under}
use Rattle.bus_model.proofs.Bridge.{claimer_name}
use Rattle.entry_lists.specs.KeptValue.{nothing_kept, kept_under, with_claimed, with_ack}
use Rattle.reassembly.specs.Tables.{at}
use Rattle.reassembly.specs.TableLaws.{at-empty, places-empty, changed_place, written_place}
use Rattle.station_table.specs.StationValue.{StationValue}
use Rattle.station_table.specs.Steps.{sessions_after, with_answer, after_group}
use Rattle.station_table.specs.StandsFor.{StandsFor}
use Rattle.entry_lists.specs.KnownRows.{row_known}
use Rattle.station_table.proofs.OwnAddress.{still_apart}
use Rattle.entry_lists.proofs.RowLemmas.{kept_under-changed, names-changed}
use Rattle.station_table.proofs.Lines.{StandsAfter, held_same, and_false, tells}
use Rattle.entry_lists.proofs.RowClaims.{kept_once_claimed, names_once_claimed, no_address, row_acknowledged, row_of_claimant, row_of_other}

-- an acknowledgment
pub acknowledged : (r : StationSettings) (grant : ℕ) (s : StationValue) (h : List Reading) (control requester pgn d src : ℕ) → src < 256 → StandsFor r grant s h
    → StandsAfter r grant (Acknowledgment control requester pgn d src) (after_group s (Acknowledgment control requester pgn d src)) h
acknowledged r grant s h control requester pgn d src lt st =
    go (is_held s.claimer.held requester || is_held s.claimer.held d) refl (at s.owners src) refl
  where
    same_test : (b : Bool) (own : Option ℕ) → (is_held s.claimer.held requester || is_held s.claimer.held d) ≡ b → at s.owners src ≡ own → (n : ℕ)
        → is_answer requester d (address_heard r h) (owner_heard src h) n ≡ (b && is_held own n)
    same_test b own i j n = rw (← held_same r grant s h st, i, ← st.owners src lt, j) refl

    row_of_other : (n : ℕ) (b : Bool) → (if b && false then with_ack_heard control pgn (row_heard r n h) else row_heard r n h) ≡ row_heard r n h
    row_of_other n b = rw (and_false b) refl

    left : (b : Bool) → ((n : ℕ) → is_answer requester d (address_heard r h) (owner_heard src h) n ≡ false) → StandsAfter r grant (Acknowledgment control requester pgn d src) s h
    left b never = record {
      addresses = (tells r grant s h st).addresses;
      rows = λ n. rw (never n) (st.rows n);
      names = st.names;
      missed = st.missed;
      unread = st.unread;
    }

    go : (b : Bool) → (is_held s.claimer.held requester || is_held s.claimer.held d) ≡ b → (own : Option ℕ) → at s.owners src ≡ own
        → StandsAfter r grant (Acknowledgment control requester pgn d src) (if b then with_answer s own (record { control = control; pgn = pgn }) else s) h
    go false i own j = left false (λ n. same_test false own i j n)
    go true i None j = left true (λ n. same_test true None i j n)
    go true i (Some m) j = record {
      addresses = (tells r grant s h st).addresses;
      rows = λ n.
          ap (row_known s.owners n) (kept_under-changed (with_ack (record { control = control; pgn = pgn })) s.rows m n)
          ∙ (if_row n (m == n) ∙ rw (same_test true (Some m) i j n, ← st.rows n) refl);
      names = names-changed (with_ack (record { control = control; pgn = pgn })) s.rows m ∙ st.names;
      missed = st.missed;
      unread = st.unread;
    }
      where
        if_row : (n : ℕ) (b : Bool)
            → row_known s.owners n (if b then option_map (with_ack (record { control = control; pgn = pgn })) (kept_under s.rows n) else kept_under s.rows n)
            ≡ (if b then with_ack_heard control pgn (row_known s.owners n (kept_under s.rows n)) else row_known s.owners n (kept_under s.rows n))
        if_row n true = row_acknowledged s.owners n control pgn (kept_under s.rows n)
        if_row n false = refl

pub cannot_claim : (r : StationSettings) (grant : ℕ) (s : StationValue) (h : List Reading) (m : ℕ) → StandsFor r grant s h
    → StandsAfter r grant (CannotClaim m) (after_group s (CannotClaim m)) h
cannot_claim r grant s h m st = record {
  addresses = (tells r grant s h st).addresses;
  rows = λ n. ap (row_known s.owners n) (kept_once_claimed None s.rows m n) ∙ rw (← st.rows n) (go n (m == n));
  names = names_once_claimed None s.rows m ∙ ap (with_name m) st.names;
  missed = st.missed;
  unread = st.unread;
}
  where
    go : (n : ℕ) (b : Bool)
        → row_known s.owners n (if b then Some (with_claimed None (unwrap_or (kept_under s.rows n) nothing_kept)) else kept_under s.rows n)
        ≡ (if b then Some (record { address = None; ack = ack_in_row (row_known s.owners n (kept_under s.rows n)) }) else row_known s.owners n (kept_under s.rows n))
    go n true = no_address s.owners n (kept_under s.rows n)
    go n false = refl

-- a step is taken exactly at a contest
abbrev IsContest : ClaimStep → Bool → Type 0
IsContest Nothing b = b ≡ false
IsContest _ b = b ≡ true

move_contest : (o : Option ℕ) → IsContest (move_step o) true
move_contest None = refl
move_contest (Some a) = refl

contest_step : (src m : ℕ) (c : ClaimerValue) → IsContest (claim_step src m c) (is_contest c.name c.held (AddressClaimed src m))
contest_step src m c = go (is_held c.held src) (m == c.name) (nat_lt c.name m)
  where
    go : (b d e : Bool)
        → IsContest (if not b || d then Nothing else (if e then Defend else move_step (next_address c.name (noted_after src m c.noted)))) (b && not d)
    go false d e = refl
    go true true e = refl
    go true false true = refl
    go true false false = move_contest (next_address c.name (noted_after src m c.noted))

-- a claim of an address
pub claimed : (r : StationSettings) (grant : ℕ) (s : StationValue) (h : List Reading) (src m : ℕ) → src < 256 → StandsFor r grant s h
    → StandsAfter r grant (AddressClaimed src m) (after_group s (AddressClaimed src m)) h
claimed r grant s h src m lt st = record {
  addresses = record {
    grants = st.grants;
    claims = rw (st.claims) refl;
    apart = still_apart src m s.claimer st.apart;
    places = record {
      owners = length-set s.owners src (Some m) ∙ st.places.owners;
      broadcasts = length-set s.broadcasts src (joining_under m (at s.broadcasts src)) ∙ st.places.broadcasts;
      sessions = session_places (claim_step src m s.claimer);
      most = st.places.most;
    };
    owners = λ a below.
        written_place s.owners (λ v. owner_heard v h) (λ v. Some m) src (Some m) st.places.owners lt refl st.owners a below;
    broadcasts = λ a below. changed_place s.broadcasts (λ v. broadcast_heard v h) (joining_under m) src st.places.broadcasts lt st.broadcasts a below;
    sessions = λ a below.
        sessions_now a below (claim_step src m s.claimer) (is_contest s.claimer.name s.claimer.held (AddressClaimed src m)) (contest_step src m s.claimer)
        ∙ rw (contest_same) refl;
    most = st.most;
  };
  rows = λ n. ap (row_known (slice_set s.owners src (Some m)) n) (kept_once_claimed (Some src) s.rows m n) ∙ rw (← st.rows n) (rows_now n (m == n) refl);
  names = names_once_claimed (Some src) s.rows m ∙ ap (with_name m) st.names;
  missed = st.missed;
  unread = st.unread;
}
  where
    contest_same : is_contest s.claimer.name s.claimer.held (AddressClaimed src m) ≡ is_contest r.name (address_heard r h) (AddressClaimed src m)
    contest_same = rw (held_same r grant s h st, st.claims, claimer_name r h) refl

    session_places : (step : ClaimStep) → length (sessions_after step (slice_set s.sessions src (joining_under m (at s.sessions src)))) ≡ 256
    session_places Nothing = length-set s.sessions src (joining_under m (at s.sessions src)) ∙ st.places.sessions
    session_places Defend = places-empty Joining
    session_places (Move b) = places-empty Joining
    session_places NoAddress = places-empty Joining

    sessions_now : (a : ℕ) → a < 256 → (step : ClaimStep) (b : Bool) → IsContest step b
        → at (sessions_after step (slice_set s.sessions src (joining_under m (at s.sessions src)))) a
        ≡ (if b then None else (if src == a then joining_under m (session_heard r a h) else session_heard r a h))
    sessions_now a below Nothing b e = rw (e) (changed_place s.sessions (λ v. session_heard r v h) (joining_under m) src st.places.sessions lt st.sessions a below)
    sessions_now a below Defend b e = rw (e) (at-empty a)
    sessions_now a below (Move c) b e = rw (e) (at-empty a)
    sessions_now a below NoAddress b e = rw (e) (at-empty a)

    rows_now : (n : ℕ) (b : Bool) → (m == n) ≡ b
        → row_known (slice_set s.owners src (Some m)) n (if b then Some (with_claimed (Some src) (unwrap_or (kept_under s.rows n) nothing_kept)) else kept_under s.rows n)
        ≡ (if b then Some (record { address = Some src; ack = ack_in_row (row_known s.owners n (kept_under s.rows n)) })
        else without_address src (row_known s.owners n (kept_under s.rows n)))
    rows_now n true e = row_of_claimant s.owners src m n (kept_under s.rows n) st.places.owners lt e
    rows_now n false e = row_of_other s.owners src m n (kept_under s.rows n) st.places.owners lt e
