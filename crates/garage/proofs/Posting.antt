-- The stations of a new garage: their claims are queued one after another.
use Rattle.std.proofs.Common.{ℕ, suc, ◌≡◌, ◌≢◌, ◌+◌, ◌<◌, ◌≤◌, List, [], ◌∷◌, ◌++◌, map, length, get_or, drop, None, Some, refl, sym, ap, ◌∙◌, arith, inl, inr}
use Rattle.std.proofs.lemmas.List.{drop_more, get_or_read, get_or-map, get_or-set_other, get_or_push, get_or_append_left, length-map, length-set, length_push}
use Rattle.address_claim.specs.Frames.{claim_frame_value}
use Rattle.bus_ledger.proofs.Numbers.{same_or_not}
use Rattle.bus_ledger.specs.BusValue.{BusValue, Traffic, nobody, seat_at, spare_at}
use Rattle.bus_ledger.specs.Changes.{new_traffic, newcomer, queued, queued_frame, queueing, seat_of_station}
use Rattle.can_frame.specs.FrameValue.{FrameValue}
use Rattle.journal.specs.State.{StationSetting, no_setting as no_station_setting, with_claims}
use Rattle.station_table.specs.Steps.{new_station}
use Rattle.garage.specs.Inside.{ArePostsOf, no_post}
use Rattle.garage.specs.Opening.{nothing_set, setting_in, setting_value, station_seat_of}
use Rattle.garage.specs.declared.garage.Post.{Post}
use Rattle.garage.specs.declared.opening.Setting.{Setting}

-- a station's seat from which nothing was queued yet, with room for a claim
pub record IsUnclaimed (settings : List Setting) (bus : BusValue) (y : ℕ) : Type 0 where
  pub seat : seat_at bus.traffic y ≡ newcomer (setting_in settings y).name 0
  pub spare : 1 ≤ spare_at bus y

-- the claims of the stations from the i-th on are still to be queued
pub record IsPosting (settings : List Setting) (start : Traffic) (bus : BusValue) (i : ℕ) : Type 0 where
  pub claims : with_claims i (drop i (map setting_value settings)) bus.traffic ≡ with_claims 0 (map setting_value settings) start
  pub seats : length bus.traffic.seats ≡ length settings
  pub rest : (y : ℕ) → i ≤ y → y < length settings → IsUnclaimed settings bus y

seat_new : (settings : List Setting) (y : ℕ) → y < length settings → seat_at (new_traffic (map station_seat_of settings)) y ≡ newcomer (setting_in settings y).name 0
seat_new settings y h =
    let long = length-map settings station_seat_of in
    get_or-map seat_of_station (map station_seat_of settings) y (station_seat_of nothing_set) nobody (omega arith)
    ∙ ap seat_of_station (get_or-map station_seat_of settings y nothing_set (station_seat_of nothing_set) h)

pub posting_starts : (settings : List Setting) (bus : BusValue) → bus.traffic ≡ new_traffic (map station_seat_of settings) → ((y : ℕ) → y < length settings → 1 ≤ spare_at bus y) → IsPosting settings bus.traffic bus 0
posting_starts settings bus new spares = record {
  claims = refl;
  seats = ap (λ (t : Traffic). length t.seats) new ∙ (length-map (map station_seat_of settings) seat_of_station ∙ length-map settings station_seat_of);
  rest = λ y l h. record { seat = ap (λ (t : Traffic). seat_at t y) new ∙ seat_new settings y h; spare = spares y h };
}

pub posting_more : (settings : List Setting) (start : Traffic) (bus bus' : BusValue) (i : ℕ) (claim : FrameValue) → IsPosting settings start bus i → i < length settings
    → bus'.traffic ≡ queued i (queued_frame claim None) bus.traffic → claim ≡ claim_frame_value (setting_in settings i).name (Some (setting_in settings i).address)
    → ((k : ℕ) → k ≢ i → spare_at bus k ≤ spare_at bus' k) → IsPosting settings start bus' (i + 1)
posting_more settings start bus bus' i claim p h now is spares =
    let many = length-map settings setting_value in
    let value : get_or (map setting_value settings) i no_station_setting ≡ setting_value (setting_in settings i) = get_or-map setting_value settings i nothing_set no_station_setting h in
    let first : drop i (map setting_value settings) ≡ setting_value (setting_in settings i) ∷ drop (i + 1) (map setting_value settings) =
    drop_more (map setting_value settings) i no_station_setting (omega arith) ∙ ap (λ (s : StationSetting). s ∷ drop (i + 1) (map setting_value settings)) value in
    let next : suc i ≡ i + 1 = omega arith in
    let s = setting_in settings i in
    let q : queued_frame claim None ≡ queued_frame (claim_frame_value s.name (Some s.address)) None = ap (λ (f : FrameValue). queued_frame f None) is in
    let step : with_claims i (drop i (map setting_value settings)) bus.traffic ≡ with_claims (i + 1) (drop (i + 1) (map setting_value settings)) bus'.traffic =
    ap (λ (l : List StationSetting). with_claims i l bus.traffic) first
    ∙ (ap (λ (k : ℕ). with_claims k (drop (i + 1) (map setting_value settings)) (queued i (queued_frame (claim_frame_value s.name (Some s.address)) None) bus.traffic)) next
    ∙ ap (with_claims (i + 1) (drop (i + 1) (map setting_value settings))) (ap (λ x. queued i x bus.traffic) (sym q) ∙ sym now)) in
    record {
      claims = sym step ∙ p.claims;
      seats = ap (λ (t : Traffic). length t.seats) now ∙ (length-set bus.traffic.seats i (queueing (queued_frame claim None) (seat_at bus.traffic i)) ∙ p.seats);
      rest = λ y l g.
          let n : y ≢ i = (λ e. omega (arith, e, l)) in
          let old = p.rest y (omega arith) g in
          record {
            seat = ap (λ (t : Traffic). seat_at t y) now ∙ (get_or-set_other bus.traffic.seats i y (queueing (queued_frame claim None) (seat_at bus.traffic i)) nobody n ∙ old.seat);
            spare = (let s = spares y n in let o = old.spare in omega arith);
          };
    }

-- one post more
pub posts_more : (posts : List Post) (settings : List Setting) (i : ℕ) (p : Post) → ArePostsOf posts settings i
    → p ≡ record { setting = setting_in settings i; station = new_station (setting_in settings i).name (setting_in settings i).address (setting_in settings i).grant; lists = [] } → ArePostsOf (posts ++ p ∷ []) settings (i + 1)
posts_more posts settings i p are is = (
  (let n = are.0 in omega (arith, length_push posts p)),
  λ y h. elim (same_or_not y i) [
    | inl e ↦ get_or_push posts p no_post y (let n = are.0 in omega arith) ∙ (is ∙ ap (λ (k : ℕ). record { setting = setting_in settings k; station = new_station (setting_in settings k).name (setting_in settings k).address (setting_in settings k).grant; lists = [] }) (sym e))
    | inr n ↦ get_or_append_left posts (p ∷ []) no_post y (let m = are.0 in omega arith) ∙ are.1 y (omega arith)
  ],
)

-- a setting that was read
pub setting_read : (settings : List Setting) (i : ℕ) (x : Setting) → x ≡ get_or settings i x → i < length settings → x ≡ setting_in settings i
setting_read settings i x e h = get_or_read settings i x h e nothing_set
