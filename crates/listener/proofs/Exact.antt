-- The listener's law, put to readings as they are told.
use Rattle.std.proofs.Common.{◌≡◌, ℕ, ◌+◌, List, [], ◌∷◌, Option, reverse, refl, sym, ap, ◌∙◌, subst}
use Rattle.can_frame.specs.FrameValue.{FrameValue}
use Rattle.can_frame.specs.declared.reading.Reading.{Reading}
use Rattle.can_frame.specs.declared.reading.Reading.TheVariants.{Frame, Gap, Empty}
use Rattle.dm_messages.specs.declared.kind.Kind.{Kind}
use Rattle.parameter_group.specs.Group.{DataTransfer, Diagnostic, Group, group_of}
use Rattle.reassembly.specs.Partials.{with_packet}
use Rattle.bus_model.specs.Expected.{Missed, Own, Received, Reception, readings}
use Rattle.bus_model.specs.Heard.{StationSettings, counted, owner_heard}
use Rattle.bus_model.specs.Machine.{AreFit, Event, Run, World, start}
use Rattle.bus_model.specs.Overheard.{EntrySent, HalfSent, between_heard, entries_overheard, gaps_heard, sent_by, sent_whole}
use Rattle.bus_model.specs.OverheardExpected.{AreSent, IsPathOfListener, expected_overheard}
use Rattle.bus_model.specs.Traffic.{owner_after}
use Rattle.bus_model.specs.declared.who.Who.{Who}
use Rattle.bus_model.specs.declared.who.Who.TheVariants.{Named}
use Rattle.bus_model.proofs.OverheardLaw.{listener_exact, listener_sent}
use Rattle.listener.specs.PathTold.{TellsPath}
use Rattle.listener.specs.SentEntries.{lists_overheard}

-- what one and the other tell is the same to a listener
pub record SaysAlike (h r : List Reading) : Type 0 where
  pub owners : (a : ℕ) → owner_heard a h ≡ owner_heard a r
  pub gaps : gaps_heard h ≡ gaps_heard r
  pub halves : (a d : ℕ) → between_heard a d h ≡ between_heard a d r
  pub entries : (w : Who) (k : Kind) → entries_overheard w k h ≡ entries_overheard w k r

message_alike : (g : Group) (h r : List Reading) → SaysAlike h r → sent_by g h ≡ sent_by g r
message_alike (Diagnostic k s bytes) h r same = rw (same.owners s, same.gaps) refl
message_alike (DataTransfer s d bytes) h r same = ap (λ (o : Option HalfSent). sent_whole d (with_packet bytes o)) (same.halves s d)
message_alike _ h r same = refl

alike : (h : List Reading) (path : List Reception) → TellsPath h path → SaysAlike h (readings path)
alike [] [] t = record { owners = λ a. refl; gaps = refl; halves = λ a d. refl; entries = λ w k. refl }
alike [] (Own e ∷ path) t = absurd t
alike [] (Received e ∷ path) t = absurd t
alike [] (Missed es ∷ path) t = absurd t
alike (Empty ∷ h) path t = let older = alike h path t in record { owners = older.owners; gaps = older.gaps; halves = older.halves; entries = older.entries }
alike (Gap n ∷ h) [] t = absurd t
alike (Gap n ∷ h) (Own e ∷ path) t = absurd t
alike (Gap n ∷ h) (Received e ∷ path) t = absurd t
alike (Gap n ∷ h) (Missed es ∷ path) t = let older = alike h path t in record { owners = λ a. refl; gaps = ap (λ (g : ℕ). counted (g + 1)) older.gaps; halves = λ a d. refl; entries = older.entries }
alike (Frame f ∷ h) [] t = absurd t
alike (Frame f ∷ h) (Own e ∷ path) t = absurd t
alike (Frame f ∷ h) (Missed es ∷ path) t = absurd t
alike (Frame f ∷ h) (Received e ∷ path) t =
    subst (λ (v : FrameValue). SaysAlike (Frame f ∷ h) (Frame v ∷ readings path)) t.0 (by_frame (alike h path t.1))
  where
    by_frame : SaysAlike h (readings path) → SaysAlike (Frame f ∷ h) (Frame f ∷ readings path)
    by_frame older = record {
      owners = λ a. ap (λ (o : Option ℕ). owner_after a (group_of f) o) (older.owners a);
      gaps = older.gaps;
      halves = λ a d. rw (older.owners a, older.gaps, older.halves a d) refl;
      entries = λ w k. rw (message_alike (group_of f) h (readings path) older, older.entries w k) refl;
    }

pub entries_exact : (settings : List StationSettings) → AreFit settings → (events : List Event) (w : World) → Run (start settings) events w → (path : List Reception) → IsPathOfListener w.wire path → (h : List Reading) → TellsPath h path → (n : ℕ) (k : Kind)
    → entries_overheard (Named n) k h ≡ expected_overheard n k w.begun path
entries_exact settings fit events w run path listens h told n k = (alike h path told).entries (Named n) k ∙ listener_exact settings fit events w run path listens n k

pub lists_exact : (settings : List StationSettings) → AreFit settings → (events : List Event) (w : World) → Run (start settings) events w → (path : List Reception) → IsPathOfListener w.wire path → (h : List Reading) → TellsPath h path → (n : ℕ) (k : Kind)
    → lists_overheard h (Named n) k ≡ reverse (expected_overheard n k w.begun path)
lists_exact settings fit events w run path listens h told n k = ap (λ (v : List EntrySent). reverse v) (entries_exact settings fit events w run path listens h told n k)

pub entries_sent : (settings : List StationSettings) → AreFit settings → (events : List Event) (w : World) → Run (start settings) events w → (path : List Reception) → IsPathOfListener w.wire path → (h : List Reading) → TellsPath h path → (who : Who) (k : Kind)
    → AreSent k w.begun (entries_overheard who k h)
entries_sent settings fit events w run path listens h told who k =
    subst (AreSent k w.begun) (sym ((alike h path told).entries who k)) (listener_sent settings fit events w run path listens who k)
