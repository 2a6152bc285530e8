-- After a diagnostic message, or a part of one, the tables have at each address what was then heard of it.
use Rattle.std.proofs.Common.{◌≡◌, ℕ, ◌<◌, Bool, true, false, ◌==◌, ◌&&◌, List, Option, Some, None, is_some, if◌then◌else◌, refl, sym, ap, ◌∙◌, subst}
use Rattle.std.specs.Prelude.{slice_set, slice_index}
use Rattle.std.proofs.lemmas.Bool.{eq-eqb, eqb-true}
use Rattle.std.proofs.lemmas.List.{length-set}
use Rattle.address_claim.specs.Claiming.{is_held}
use Rattle.can_frame.specs.declared.reading.Reading.{Reading}
use Rattle.dm_messages.specs.declared.kind.Kind.{Kind}
use Rattle.dm_messages.specs.declared.shown.Shown.{Shown}
use Rattle.dm_messages.specs.View.{decoding}
use Rattle.transport.specs.declared.control.Control.TheVariants.{Rts, Bam, Abort}
use Rattle.parameter_group.specs.Group.{Diagnostic, ConnectionManagement, DataTransfer}
use Rattle.reassembly.specs.Partials.{with_packet, after_packet}
use Rattle.reassembly.specs.Tables.{at}
use Rattle.reassembly.specs.TableLaws.{item-set, changed_place, written_place}
use Rattle.bus_model.specs.Heard.{StationSettings, Joining, Entry, kind_of, started, finished, entry_under, or_else, without_kind, owner_heard, address_heard, broadcast_heard, session_heard, ended_by}
use Rattle.station_table.specs.StationValue.{StationValue}
use Rattle.station_table.specs.Steps.{with_reading, with_ended, with_broadcast_packet, with_session_packet, with_session, after_group}
use Rattle.station_table.specs.StandsFor.{StandsFor, most_heard}
use Rattle.station_table.proofs.Lines.{StandsAfter, Midway, held_same, and_true, and_false, ending, tells}

-- a single message
pub single : (r : StationSettings) (grant : ℕ) (s : StationValue) (h : List Reading) (k : Kind) (src : ℕ) (bytes : List ℕ) → src < 256 → StandsFor r grant s h
    → StandsAfter r grant (Diagnostic k src bytes) (after_group s (Diagnostic k src bytes)) h
single r grant s h k src bytes lt st = ending r grant (Diagnostic k src bytes) s h (entry_under (at s.owners src) k bytes) mid same
  where
    mid : Midway r grant (Diagnostic k src bytes) s h
    mid = record {
      tells = tells r grant s h st;
      rows = λ n. refl;
    }

    same : entry_under (at s.owners src) k bytes ≡ entry_under (owner_heard src h) k bytes
    same = rw (st.owners src lt) refl

-- no test of the place is passed where the other test fails
test_fails : {X : Type 0} (s a : ℕ) (b : Bool) (x y : X) → b ≡ false → y ≡ (if s == a && b then x else y)
test_fails s a b x y e = rw (e, and_false (s == a)) refl

test_holds : {X : Type 0} (s a : ℕ) (b : Bool) (x y : X) → b ≡ true → (if s == a then x else y) ≡ (if s == a && b then x else y)
test_holds s a b x y e = rw (e, and_true (s == a)) refl

-- a message that ends leaves the tables by address
ended_broadcasts : (s : StationValue) (o : Option Entry) (table : List (Option Joining))
    → with_ended (record s { broadcasts = table }) o ≡ (let ended = with_ended s o in record ended { broadcasts = table })
ended_broadcasts s None table = refl
ended_broadcasts s (Some e) table = go (decoding e.bytes)
  where
    go : (o : Option Shown) → with_reading (record s { broadcasts = table }) o ≡ (let ended = with_reading s o in record ended { broadcasts = table })
    go None = refl
    go (Some v) = refl

ended_sessions : (s : StationValue) (o : Option Entry) (table : List (Option Joining))
    → with_ended (record s { sessions = table }) o ≡ (let ended = with_ended s o in record ended { sessions = table })
ended_sessions s None table = refl
ended_sessions s (Some e) table = go (decoding e.bytes)
  where
    go : (o : Option Shown) → with_reading (record s { sessions = table }) o ≡ (let ended = with_reading s o in record ended { sessions = table })
    go None = refl
    go (Some v) = refl

-- a packet of a broadcast
broadcast_packet : (r : StationSettings) (grant : ℕ) (s : StationValue) (h : List Reading) (src d : ℕ) (bytes : List ℕ) → (d == 255) ≡ true → src < 256
    → is_held s.claimer.held 255 ≡ false → StandsFor r grant s h → StandsAfter r grant (DataTransfer src d bytes) (with_broadcast_packet s src bytes) h
broadcast_packet r grant s h src d bytes to_all lt not_held st =
    subst (λ (x : StationValue). StandsAfter r grant (DataTransfer src d bytes) x h)
    (ended_broadcasts s (finished (with_packet bytes (at s.broadcasts src))) (slice_set s.broadcasts src (after_packet bytes (at s.broadcasts src))))
    (ending r grant (DataTransfer src d bytes) (record s { broadcasts = slice_set s.broadcasts src (after_packet bytes (at s.broadcasts src)) }) h
    (finished (with_packet bytes (at s.broadcasts src))) mid same)
  where
    own_other : is_held (address_heard r h) d ≡ false
    own_other = let e : d ≡ 255 = eqb-true d 255 to_all in rw (← held_same r grant s h st, e) not_held

    mid : Midway r grant (DataTransfer src d bytes) (record s { broadcasts = slice_set s.broadcasts src (after_packet bytes (at s.broadcasts src)) }) h
    mid = record {
      tells = record {
        addresses = record {
          grants = st.grants;
          claims = st.claims;
          apart = st.apart;
          places = record { owners = st.places.owners; broadcasts = length-set s.broadcasts src (after_packet bytes (at s.broadcasts src)) ∙ st.places.broadcasts; sessions = st.places.sessions; most = st.places.most };
          owners = st.owners;
          broadcasts = λ a below.
              changed_place s.broadcasts (λ v. broadcast_heard v h) (after_packet bytes) src st.places.broadcasts lt st.broadcasts a below
              ∙ test_holds src a (d == 255) (after_packet bytes (broadcast_heard a h)) (broadcast_heard a h) to_all;
          sessions = λ a below.
              st.sessions a below ∙ test_fails src a (is_held (address_heard r h) d) (after_packet bytes (session_heard r a h)) (session_heard r a h) own_other;
          most = st.most;
        };
        rows = st.rows;
        names = st.names;
        missed = st.missed;
        unread = st.unread;
      };
      rows = λ n. refl;
    }

    same : finished (with_packet bytes (at s.broadcasts src)) ≡ ended_by r (DataTransfer src d bytes) h
    same = rw (to_all, st.broadcasts src lt) refl

-- a packet of a session
session_packet : (r : StationSettings) (grant : ℕ) (s : StationValue) (h : List Reading) (src d : ℕ) (bytes : List ℕ) → (d == 255) ≡ false → is_held s.claimer.held d ≡ true
    → src < 256 → StandsFor r grant s h → StandsAfter r grant (DataTransfer src d bytes) (with_session_packet s src bytes) h
session_packet r grant s h src d bytes not_all held lt st =
    subst (λ (x : StationValue). StandsAfter r grant (DataTransfer src d bytes) x h)
    (ended_sessions s (finished (with_packet bytes (at s.sessions src))) (slice_set s.sessions src (after_packet bytes (at s.sessions src))))
    (ending r grant (DataTransfer src d bytes) (record s { sessions = slice_set s.sessions src (after_packet bytes (at s.sessions src)) }) h
    (finished (with_packet bytes (at s.sessions src))) mid same)
  where
    own : is_held (address_heard r h) d ≡ true
    own = rw (← held_same r grant s h st) held

    mid : Midway r grant (DataTransfer src d bytes) (record s { sessions = slice_set s.sessions src (after_packet bytes (at s.sessions src)) }) h
    mid = record {
      tells = record {
        addresses = record {
          grants = st.grants;
          claims = st.claims;
          apart = st.apart;
          places = record { owners = st.places.owners; broadcasts = st.places.broadcasts; sessions = length-set s.sessions src (after_packet bytes (at s.sessions src)) ∙ st.places.sessions; most = st.places.most };
          owners = st.owners;
          broadcasts = λ a below. st.broadcasts a below ∙ test_fails src a (d == 255) (after_packet bytes (broadcast_heard a h)) (broadcast_heard a h) not_all;
          sessions = λ a below.
              changed_place s.sessions (λ v. session_heard r v h) (after_packet bytes) src st.places.sessions lt st.sessions a below
              ∙ test_holds src a (is_held (address_heard r h) d) (after_packet bytes (session_heard r a h)) (session_heard r a h) own;
          most = st.most;
        };
        rows = st.rows;
        names = st.names;
        missed = st.missed;
        unread = st.unread;
      };
      rows = λ n. refl;
    }

    same : finished (with_packet bytes (at s.sessions src)) ≡ ended_by r (DataTransfer src d bytes) h
    same = rw (not_all, own, st.sessions src lt) refl

-- a packet to another address
other_packet : (r : StationSettings) (grant : ℕ) (s : StationValue) (h : List Reading) (src d : ℕ) (bytes : List ℕ) → (d == 255) ≡ false → is_held s.claimer.held d ≡ false
    → StandsFor r grant s h → StandsAfter r grant (DataTransfer src d bytes) s h
other_packet r grant s h src d bytes not_all not_held st = record {
  addresses = record {
    grants = st.grants;
    claims = st.claims;
    apart = st.apart;
    places = st.places;
    owners = st.owners;
    broadcasts = λ a below. st.broadcasts a below ∙ test_fails src a (d == 255) (after_packet bytes (broadcast_heard a h)) (broadcast_heard a h) not_all;
    sessions = λ a below.
        st.sessions a below ∙ test_fails src a (is_held (address_heard r h) d) (after_packet bytes (session_heard r a h)) (session_heard r a h) own_other;
    most = st.most;
  };
  rows = st.rows;
  names = st.names;
  missed = st.missed;
  unread = rw (not_all, own_other) (st.unread);
}
  where
    own_other : is_held (address_heard r h) d ≡ false
    own_other = rw (← held_same r grant s h st) not_held

pub packet : (r : StationSettings) (grant : ℕ) (s : StationValue) (h : List Reading) (src d : ℕ) (bytes : List ℕ) → src < 256 → is_held s.claimer.held 255 ≡ false
    → StandsFor r grant s h → StandsAfter r grant (DataTransfer src d bytes) (after_group s (DataTransfer src d bytes)) h
packet r grant s h src d bytes lt not_held st = go (d == 255) (is_held s.claimer.held d) refl refl
  where
    go : (b c : Bool) → (d == 255) ≡ b → is_held s.claimer.held d ≡ c
        → StandsAfter r grant (DataTransfer src d bytes) (if b then with_broadcast_packet s src bytes else (if c then with_session_packet s src bytes else s)) h
    go true c i j = broadcast_packet r grant s h src d bytes i lt not_held st
    go false true i j = session_packet r grant s h src d bytes i j lt st
    go false false i j = other_packet r grant s h src d bytes i j st

-- a broadcast is announced
pub bam : (r : StationSettings) (grant : ℕ) (s : StationValue) (h : List Reading) (src d size packets pgn : ℕ) → src < 256 → StandsFor r grant s h
    → StandsAfter r grant (ConnectionManagement src d (Bam size packets pgn)) (after_group s (ConnectionManagement src d (Bam size packets pgn))) h
bam r grant s h src d size packets pgn lt st = go (d == 255) refl
  where
    new : ℕ → Option Joining
    new a = started (kind_of pgn) size (owner_heard a h)

    here : Option Joining
    here = started (kind_of pgn) size (at s.owners src)

    go : (b : Bool) → (d == 255) ≡ b
        → StandsAfter r grant (ConnectionManagement src d (Bam size packets pgn))
        (if b then record s { broadcasts = slice_set s.broadcasts src (started (kind_of pgn) size (at s.owners src)) } else s) h
    go true i = record {
      addresses = record {
        grants = st.grants;
        claims = st.claims;
        apart = st.apart;
        places = record { owners = st.places.owners; broadcasts = length-set s.broadcasts src (started (kind_of pgn) size (at s.owners src)) ∙ st.places.broadcasts; sessions = st.places.sessions; most = st.places.most };
        owners = st.owners;
        broadcasts = λ a below.
            written_place s.broadcasts (λ v. broadcast_heard v h) (λ v. started (kind_of pgn) size (owner_heard v h)) src (started (kind_of pgn) size (at s.owners src))
            st.places.broadcasts lt (ap (started (kind_of pgn) size) (st.owners src lt)) st.broadcasts a below
            ∙ test_holds src a (d == 255) (started (kind_of pgn) size (owner_heard a h)) (broadcast_heard a h) i;
        sessions = st.sessions;
        most = st.most;
      };
      rows = st.rows;
      names = st.names;
      missed = st.missed;
      unread = st.unread;
    }
    go false i = record {
      addresses = record {
        grants = st.grants;
        claims = st.claims;
        apart = st.apart;
        places = st.places;
        owners = st.owners;
        broadcasts = λ a below. st.broadcasts a below ∙ test_fails src a (d == 255) (started (kind_of pgn) size (owner_heard a h)) (broadcast_heard a h) i;
        sessions = st.sessions;
        most = st.most;
      };
      rows = st.rows;
      names = st.names;
      missed = st.missed;
      unread = st.unread;
    }

-- a session is announced
pub rts : (r : StationSettings) (grant : ℕ) (s : StationValue) (h : List Reading) (src d size packets most pgn : ℕ) → src < 256 → StandsFor r grant s h
    → StandsAfter r grant (ConnectionManagement src d (Rts size packets most pgn)) (after_group s (ConnectionManagement src d (Rts size packets most pgn))) h
rts r grant s h src d size packets most pgn lt st = go (is_held s.claimer.held d) refl
  where
    begun_at : ℕ → Option Joining
    begun_at a = started (kind_of pgn) size (owner_heard a h)

    own_held : (b : Bool) → is_held s.claimer.held d ≡ b → is_held (address_heard r h) d ≡ b
    own_held b i = ap (λ v. is_held v d) (sym (held_same r grant s h st)) ∙ i

    at_source : (o : Option Joining) → started (kind_of pgn) size (at s.owners src) ≡ o → (a : ℕ) → (src == a) ≡ true → started (kind_of pgn) size (owner_heard a h) ≡ o
    at_source o e a here =
        let place : src ≡ a = eqb-true src a here in
        ap (λ v. started (kind_of pgn) size (owner_heard v h)) (sym place) ∙ (ap (started (kind_of pgn) size) (sym (st.owners src lt)) ∙ e)

    nothing_begun : (a : ℕ) (before : Option Joining) → started (kind_of pgn) size (at s.owners src) ≡ None → (b c : Bool) → (src == a) ≡ b
        → before ≡ (if b && c then or_else (started (kind_of pgn) size (owner_heard a h)) before else before)
    nothing_begun a before e true true here = rw (at_source None e a here) refl
    nothing_begun a before e true false here = refl
    nothing_begun a before e false c here = refl

    no_limit : (a before : ℕ) → started (kind_of pgn) size (at s.owners src) ≡ None → (b c : Bool) → (src == a) ≡ b
        → before ≡ (if (b && c) && is_some (started (kind_of pgn) size (owner_heard a h)) then most else before)
    no_limit a before e true true here = rw (at_source None e a here) refl
    no_limit a before e true false here = refl
    no_limit a before e false c here = refl

    limit : (a : ℕ) (j : Joining) → a < 256 → started (kind_of pgn) size (at s.owners src) ≡ Some j → (b c : Bool) → (src == a) ≡ b → c ≡ true
        → (if b then most else slice_index s.most a) ≡ (if (b && c) && is_some (started (kind_of pgn) size (owner_heard a h)) then most else most_heard r a h)
    limit a j below e true true here i = rw (at_source (Some j) e a here) refl
    limit a j below e true false here i = absurd cc
    limit a j below e false c here i = st.most a below

    begins : is_held s.claimer.held d ≡ true → (o : Option Joining) → started (kind_of pgn) size (at s.owners src) ≡ o
        → StandsAfter r grant (ConnectionManagement src d (Rts size packets most pgn)) (with_session s src most o) h
    begins i None e = record {
      addresses = record {
        grants = st.grants;
        claims = st.claims;
        apart = st.apart;
        places = st.places;
        owners = st.owners;
        broadcasts = st.broadcasts;
        sessions = λ a below. st.sessions a below ∙ nothing_begun a (session_heard r a h) e (src == a) (is_held (address_heard r h) d) refl;
        most = λ a below. st.most a below ∙ no_limit a (most_heard r a h) e (src == a) (is_held (address_heard r h) d) refl;
      };
      rows = st.rows;
      names = st.names;
      missed = st.missed;
      unread = st.unread;
    }
    begins i (Some j) e = record {
      addresses = record {
        grants = st.grants;
        claims = st.claims;
        apart = st.apart;
        places = record {
          owners = st.places.owners;
          broadcasts = st.places.broadcasts;
          sessions = length-set s.sessions src (Some j) ∙ st.places.sessions;
          most = length-set s.most src most ∙ st.places.most;
        };
        owners = st.owners;
        broadcasts = st.broadcasts;
        sessions = λ a below.
            written_place s.sessions (λ v. session_heard r v h) (λ v. or_else (begun_at v) (session_heard r v h)) src (Some j) st.places.sessions lt
            (ap (λ (o : Option Joining). or_else o (session_heard r src h)) (sym (at_source (Some j) e src (eq-eqb src src refl)))) st.sessions a below
            ∙ test_holds src a (is_held (address_heard r h) d) (or_else (begun_at a) (session_heard r a h)) (session_heard r a h) (own_held true i);
        most = λ a below.
            item-set 0 s.most src a most (subst (λ (v : ℕ). src < v) (sym st.places.most) lt)
            ∙ limit a j below e (src == a) (is_held (address_heard r h) d) refl (own_held true i);
      };
      rows = st.rows;
      names = st.names;
      missed = st.missed;
      unread = st.unread;
    }

    go : (b : Bool) → is_held s.claimer.held d ≡ b
        → StandsAfter r grant (ConnectionManagement src d (Rts size packets most pgn))
        (if b then with_session s src most (started (kind_of pgn) size (at s.owners src)) else s) h
    go true i = begins i (started (kind_of pgn) size (at s.owners src)) refl
    go false i = record {
      addresses = record {
        grants = st.grants;
        claims = st.claims;
        apart = st.apart;
        places = st.places;
        owners = st.owners;
        broadcasts = st.broadcasts;
        sessions = λ a below. st.sessions a below ∙ test_fails src a (is_held (address_heard r h) d) (or_else (begun_at a) (session_heard r a h)) (session_heard r a h) (own_held false i);
        most = λ a below. st.most a below ∙ rw (own_held false i, and_false (src == a)) refl;
      };
      rows = st.rows;
      names = st.names;
      missed = st.missed;
      unread = st.unread;
    }

-- a session is aborted
pub aborted : (r : StationSettings) (grant : ℕ) (s : StationValue) (h : List Reading) (src d reason pgn : ℕ) → src < 256 → StandsFor r grant s h
    → StandsAfter r grant (ConnectionManagement src d (Abort reason pgn)) (after_group s (ConnectionManagement src d (Abort reason pgn))) h
aborted r grant s h src d reason pgn lt st = go (is_held s.claimer.held d) refl
  where
    go : (b : Bool) → is_held s.claimer.held d ≡ b
        → StandsAfter r grant (ConnectionManagement src d (Abort reason pgn))
        (if b then record s { sessions = slice_set s.sessions src (without_kind (kind_of pgn) (at s.sessions src)) } else s) h
    go true i = record {
      addresses = record {
        grants = st.grants;
        claims = st.claims;
        apart = st.apart;
        places = record { owners = st.places.owners; broadcasts = st.places.broadcasts; sessions = length-set s.sessions src (without_kind (kind_of pgn) (at s.sessions src)) ∙ st.places.sessions; most = st.places.most };
        owners = st.owners;
        broadcasts = st.broadcasts;
        sessions = λ a below.
            changed_place s.sessions (λ v. session_heard r v h) (without_kind (kind_of pgn)) src st.places.sessions lt st.sessions a below
            ∙ test_holds src a (is_held (address_heard r h) d) (without_kind (kind_of pgn) (session_heard r a h)) (session_heard r a h)
            (ap (λ v. is_held v d) (sym (held_same r grant s h st)) ∙ i);
        most = st.most;
      };
      rows = st.rows;
      names = st.names;
      missed = st.missed;
      unread = st.unread;
    }
    go false i = record {
      addresses = record {
        grants = st.grants;
        claims = st.claims;
        apart = st.apart;
        places = st.places;
        owners = st.owners;
        broadcasts = st.broadcasts;
        sessions = λ a below.
            st.sessions a below
            ∙ test_fails src a (is_held (address_heard r h) d) (without_kind (kind_of pgn) (session_heard r a h)) (session_heard r a h)
            (ap (λ v. is_held v d) (sym (held_same r grant s h st)) ∙ i);
        most = st.most;
      };
      rows = st.rows;
      names = st.names;
      missed = st.missed;
      unread = st.unread;
    }
