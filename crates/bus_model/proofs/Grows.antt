-- Each list of entries only grows.
use Rattle.std.proofs.Common.{◌≡◌, ℕ, Bool, true, false, ◌&&◌, ◌==◌, List, [], ◌∷◌, ◌++◌, set, slice_get, Option, Some, None, if◌then◌else◌, sym, refl, ap, ◌∙◌, subst, inl, inr}
use Rattle.can_frame.specs.declared.reading.Reading.TheVariants.{Frame}
use Rattle.dm_messages.specs.View.{decoding, same_kind}
use Rattle.dm_messages.specs.declared.kind.Kind.{Kind}
use Rattle.dm_messages.specs.declared.shown.Shown.{Shown}
use Rattle.bus_model.specs.Expected.{Missed, Own, Received, Reception, readings}
use Rattle.bus_model.specs.Heard.{Entry, StationSettings, ended, entries_heard, put, put_read}
use Rattle.bus_model.specs.Machine.{Answer, Ask, Begin, Begins, Carry, Carry_station, EndsSession, Event, Sends, Hear, IsAt, Join, Leave, Miss, Nothing, Read, Replies, Seat, Station, Step, Turned, World, Claims, answered}
use Rattle.bus_model.specs.Traffic.{Item}
use Rattle.bus_model.proofs.Worlds.{slice_get_set}

stations_answered : (w : World) (x : ℕ) (s : Seat) (a : Answer) → (answered w x s a).stations ≡ w.stations
stations_answered w x s Nothing = refl
stations_answered w x s (Replies f) = refl
stations_answered w x s (Begins kind memory source destination) = refl
stations_answered w x s (Sends n) = refl
stations_answered w x s EndsSession = refl
stations_answered w x s (Claims o) = refl

-- what a step does to a station's path
pub data PathStep (p q : List Reception) : Type 0 where
  Stays : q ≡ p → PathStep p q
  Passes : (e : Item) → q ≡ Own e ∷ p → PathStep p q
  Reads : (e : Item) → q ≡ Received e ∷ p → PathStep p q
  Misses : (es : List Item) → q ≡ Missed es ∷ p → PathStep p q

one : (xs : List Station) (y : ℕ) (s t : Station) → slice_get xs y ≡ Some s → slice_get xs y ≡ Some t → s ≡ t
one xs y s t h g = cc

-- no station changed
kept : (xs zs : List Station) (y : ℕ) (s t : Station) → zs ≡ xs → slice_get xs y ≡ Some s → slice_get zs y ≡ Some t → PathStep s.path t.path
kept xs zs y s t e h g = Stays (ap (λ (u : Station). u.path) (sym (one xs y s t h (subst (λ (l : List Station). slice_get l y ≡ Some t) e g))))

-- one did
changed : (xs zs : List Station) (y z : ℕ) (s t u v : Station) → zs ≡ set xs z v → slice_get xs z ≡ Some u → slice_get xs y ≡ Some s → slice_get zs y ≡ Some t → PathStep u.path v.path → PathStep s.path t.path
changed xs zs y z s t u v e at h g step =
    elim (slice_get_set xs z y v t (subst (λ (l : List Station). slice_get l y ≡ Some t) e g)) [
      | inl w ↦ (let k : u ≡ s = one xs z u s at (subst (λ (n : ℕ). slice_get xs n ≡ Some s) w.0 h) in subst (λ (a : Station). PathStep a.path t.path) k (subst (λ (a : Station). PathStep u.path a.path) (sym w.1) step))
      | inr w ↦ Stays (ap (λ (a : Station). a.path) (one xs y t s w.1 h))
    ]

stations_of : (v w : World) → v ≡ w → v.stations ≡ w.stations
stations_of v w e = ap (λ (u : World). u.stations) e

pub path_step : (old : World) (event : Event) (new : World) (y : ℕ) (s t : Station) → Step old event new → IsAt old y s → IsAt new y t → PathStep s.path t.path
path_step old (Join n a) new y s t h i j = kept old.stations new.stations y s t (stations_of new _ h.3) i j
path_step old (Hear x answer) new y s t (c, e, ahead, at, k, may, is) i j = kept old.stations new.stations y s t (stations_of new _ is ∙ stations_answered old x _ answer) i j
path_step old (Begin x kind memory source) new y s t (c, at, held, fit, none, is) i j = kept old.stations new.stations y s t (stations_of new _ is) i j
path_step old (Turned x) new y s t h i j = kept old.stations new.stations y s t (stations_of new _ h) i j
path_step old (Carry x) new y s t (c, e, rest, at, q, k, is) i j = kept old.stations new.stations y s t (stations_of new _ is) i j
path_step old (Carry_station z) new y s t (u, e, rest, at, q, k, is) i j = changed old.stations new.stations y z s t u _ (stations_of new _ is) at i j (Passes e refl)
path_step old (Ask z frames) new y s t (u, at, may, is) i j = changed old.stations new.stations y z s t u _ (stations_of new _ is) at i j (Stays refl)
path_step old (Read z frames) new y s t (u, e, ahead, at, k, may, is) i j = changed old.stations new.stations y z s t u _ (stations_of new _ is) at i j (Reads e refl)
path_step old (Miss z n frames) new y s t (u, es, ahead, at, len, k, may, is) i j = changed old.stations new.stations y z s t u _ (stations_of new _ is) at i j (Misses es refl)
path_step old (Leave x) new y s t (c, at, is) i j = kept old.stations new.stations y s t (stations_of new _ is) i j

-- the list with some entries in front
abbrev pub IsGrown : List Shown → List Shown → Type 0
IsGrown before after = (more : List Shown) × (after ≡ more ++ before)

pub put_grows : (n : ℕ) (k : Kind) (o : Option Entry) (l : List Shown) → IsGrown l (put n k o l)
put_grows n k None l = ([], refl)
put_grows n k (Some e) l = go (e.name == n && same_kind e.kind k) (decoding e.bytes)
  where
    go : (b : Bool) (o : Option Shown) → IsGrown l (if b then put_read o l else l)
    go false o = ([], refl)
    go true None = ([], refl)
    go true (Some v) = (v ∷ [], refl)

pub grows : (p q : List Reception) (r : StationSettings) (n : ℕ) (k : Kind) → PathStep p q → IsGrown (entries_heard r n k (readings p)) (entries_heard r n k (readings q))
grows p q r n k (Stays e) = ([], ap (λ (v : List Reception). entries_heard r n k (readings v)) e)
grows p q r n k (Passes x e) = ([], ap (λ (v : List Reception). entries_heard r n k (readings v)) e)
grows p q r n k (Misses es e) = ([], ap (λ (v : List Reception). entries_heard r n k (readings v)) e)
grows p q r n k (Reads x e) =
    let g = put_grows n k (ended r (Frame x.frame) (readings p)) (entries_heard r n k (readings p)) in
    (g.0, ap (λ (v : List Reception). entries_heard r n k (readings v)) e ∙ g.1)
