-- What a line spells, from what its words do.
use Rattle.std.proofs.Common.{◌≡◌, ◌∙◌, ℕ, Bool, true, false, List, [], ◌∷◌, Option, Some, None, if◌then◌else◌, option_map, refl, ap, sym}
use Rattle.std.specs.Prelude.{bytes_eq, codes, option_and_then}
use Rattle.script_line.specs.Grammar.{◌>>=◌, Form, command_form, done, line_spelled, never, number, only, read_as, station_form, whole, word}
use Rattle.script_line.specs.Line.{script_words}
use Rattle.script_line.specs.Station.{is_of_station}
use Rattle.script_line.specs.declared.command.Command.{Command}
use Rattle.script_line.specs.declared.command.ScriptLine.{ScriptLine}

-- ---- the next word

pub word_is : (ws : List (List ℕ)) (w : List ℕ) (rest : List (List ℕ)) → ws ≡ w ∷ rest → word ws ≡ Some (w, rest)
unfolding read_as
word_is ws w rest e = rw e refl

pub word_none : (ws : List (List ℕ)) → ws ≡ [] → word ws ≡ None
unfolding read_as
word_none ws e = rw e refl

-- ---- a line with a station

abbrev pub line_with : ℕ → Command → ScriptLine
line_with s c = record { station = s; command = c }

abbrev pub at_command : Form Command → ℕ → Form ScriptLine
at_command form s = ◌>>=◌ form (λ c. if is_of_station c then done (line_with s c) else never)

pub station_cut : (ws mid : List (List ℕ)) (s : ℕ) → number ws ≡ Some (s, mid) → word mid ≡ None → None ≡ whole station_form ws
station_cut ws mid s e n = rw (e, n) refl

pub station_at : (ws mid rest : List (List ℕ)) (s : ℕ) (w : List ℕ) → number ws ≡ Some (s, mid) → word mid ≡ Some (w, rest) → whole (at_command (command_form w) s) rest ≡ whole station_form ws
station_at ws mid rest s w e n = rw (e, n) refl

abbrev kept : ℕ → Option Command → Option ScriptLine
kept s r = option_and_then (λ c. if is_of_station c then Some (line_with s c) else None) r

at_end : (l : ScriptLine) (b : Bool) → option_and_then (λ read. only read.0 read.1) ((if b then done l else never) []) ≡ (if b then Some l else None)
at_end l true = refl
at_end l false = refl

behind : (l : ScriptLine) (b : Bool) (w : List ℕ) (ws : List (List ℕ)) → option_and_then (λ read. only read.0 read.1) ((if b then done l else never) (w ∷ ws)) ≡ None
behind l true w ws = refl
behind l false w ws = refl

by_rest : (s : ℕ) (c : Command) (rest : List (List ℕ))
    → option_and_then (λ read. only read.0 read.1) ((if is_of_station c then done (line_with s c) else never) rest) ≡ kept s (only c rest)
by_rest s c [] = at_end (line_with s c) (is_of_station c)
by_rest s c (w ∷ ws) = behind (line_with s c) (is_of_station c) w ws

at_some : (s : ℕ) (x : Option (Command × List (List ℕ)))
    → option_and_then (λ read. only read.0 read.1) (option_and_then (λ read. (if is_of_station read.0 then done (line_with s read.0) else never) read.1) x)
    ≡ kept s (option_and_then (λ read. only read.0 read.1) x)
at_some s None = refl
at_some s (Some r) = by_rest s r.0 r.1

pub station_kept : (form : Form Command) (ws : List (List ℕ)) (s : ℕ) (r : Option Command) → r ≡ whole form ws → kept s r ≡ whole (at_command form s) ws
station_kept form ws s r e = ap (kept s) e ∙ sym (at_some s (form ws))

pub station_some : (form : Form Command) (ws : List (List ℕ)) (s : ℕ) (r : Option Command) (c : Command) → r ≡ whole form ws → r ≡ Some c → is_of_station c ≡ true → Some (line_with s c) ≡ whole (at_command form s) ws
station_some form ws s r c e is of =
    let first : Some (line_with s c) ≡ kept s (Some c) = rw of refl in
    first ∙ ap (kept s) (sym is) ∙ station_kept form ws s r e

pub station_not : (form : Form Command) (ws : List (List ℕ)) (s : ℕ) (r : Option Command) (c : Command) → r ≡ whole form ws → r ≡ Some c → is_of_station c ≡ false → None ≡ whole (at_command form s) ws
station_not form ws s r c e is of =
    let first : None ≡ kept s (Some c) = rw of refl in
    first ∙ ap (kept s) (sym is) ∙ station_kept form ws s r e

pub station_none : (form : Form Command) (ws : List (List ℕ)) (s : ℕ) (r : Option Command) → r ≡ whole form ws → r ≡ None → None ≡ whole (at_command form s) ws
station_none form ws s r e is = ap (kept s) (sym is) ∙ station_kept form ws s r e

-- ---- any line

pub line_none : (line : List ℕ) → word (script_words line) ≡ None → None ≡ line_spelled line
unfolding line_spelled
line_none line e = rw e refl

pub line_at : (line w : List ℕ) (rest : List (List ℕ)) → word (script_words line) ≡ Some (w, rest) → bytes_eq w (codes "at") ≡ true → whole station_form rest ≡ line_spelled line
unfolding line_spelled
line_at line w rest e at = rw (e, at) refl

first_rest : (c : Command) (rest : List (List ℕ)) → option_map (line_with 0) (only c rest) ≡ only (line_with 0 c) rest
first_rest c [] = refl
first_rest c (w ∷ ws) = refl

first_all : (x : Option (Command × List (List ℕ)))
    → option_map (line_with 0) (option_and_then (λ read. only read.0 read.1) x) ≡ option_and_then (λ read. only read.0 read.1) (option_and_then (λ read. done (line_with 0 read.0) read.1) x)
first_all None = refl
first_all (Some r) = first_rest r.0 r.1

pub line_first : (line w : List ℕ) (rest : List (List ℕ)) (r : Option Command) → word (script_words line) ≡ Some (w, rest) → bytes_eq w (codes "at") ≡ false → r ≡ whole (command_form w) rest
    → option_map (line_with 0) r ≡ line_spelled line
unfolding line_spelled
line_first line w rest r e at is = rw (e, at) (ap (option_map (line_with 0)) is ∙ first_all (command_form w rest))
