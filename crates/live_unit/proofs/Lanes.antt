-- The frames of a lane, by the pieces that hold them.
use Rattle.std.proofs.Common.{ℕ, Bool, Some, subst, ◌≡◌, ◌+◌, ◌<◌, List, [], ◌∷◌, ◌++◌, length, get_or, set, drop, slice_get, refl, sym, ap, ◌∙◌, arith, length-append}
use Rattle.std.proofs.lemmas.List.{append-nil}
use Rattle.std.proofs.lemmas.List.Concat.{flat_map-append}
use Rattle.std.proofs.lemmas.List.Elements.{All-head, All-drop}
use Rattle.std.specs.List.{All}
use Rattle.node_core.specs.Pieces.{outs_of}
use Rattle.node_core.specs.declared.out.Out.{Out}
use Rattle.node_core.specs.declared.out.Piece.{Piece}
use Rattle.node_core.specs.declared.out.Piece.TheVariants.{One, Many}
use Rattle.node_core.specs.declared.out.Part.TheVariants as part
use Rattle.live_unit.specs.Queue.{HoldsSome, IsSentFrom, QueueValue, lane_for_piece, outs_waiting, put_into, putting}

-- one piece more
pub outs_push : (ps : List Piece) (p : Piece) → outs_waiting (ps ++ p ∷ []) ≡ outs_waiting ps ++ outs_of p
outs_push ps p = flat_map-append outs_of ps (p ∷ []) ∙ ap (λ (l : List Out). outs_waiting ps ++ l) (append-nil (outs_of p))

pub length_push : (ps : List Piece) (p : Piece) → length (outs_waiting (ps ++ p ∷ [])) ≡ length (outs_waiting ps) + length (outs_of p)
length_push ps p = ap length (outs_push ps p) ∙ length-append (outs_waiting ps) (outs_of p)

-- the first frames of a list with some in front
first_of_both : (xs ys : List Out) → 0 < length xs → slice_get (xs ++ ys) 0 ≡ slice_get xs 0
first_of_both [] ys h = absurd (omega arith)
first_of_both (x ∷ xs) ys h = refl

rest_of_both : (xs ys : List Out) → 0 < length xs → drop 1 (xs ++ ys) ≡ drop 1 xs ++ ys
rest_of_both [] ys h = absurd (omega arith)
rest_of_both (x ∷ xs) ys h = refl

none_left : (xs : List Out) → length xs ≡ 1 → drop 1 xs ≡ []
none_left [] e = absurd (omega arith)
none_left (x ∷ []) e = refl
none_left (x ∷ y ∷ xs) e = absurd (omega arith)

-- the first frame of a lane is that of its first piece
pub first_waiting : (ps : List Piece) (p : Piece) → All HoldsSome ps → 0 < length ps → p ≡ get_or ps 0 p → slice_get (outs_of p) 0 ≡ slice_get (outs_waiting ps) 0
first_waiting [] p some h read = absurd (omega arith)
first_waiting (x ∷ ps) p some h read =
    ap (λ (y : Piece). slice_get (outs_of y) 0) read ∙ sym (first_of_both (outs_of x) (outs_waiting ps) (All-head HoldsSome x ps some))

-- without its first piece, which held one frame, whatever became of that
pub without_piece : (ps : List Piece) (p y : Piece) → All HoldsSome ps → 0 < length ps → p ≡ get_or ps 0 p → length (outs_of p) ≡ 1 → outs_waiting (drop 1 (set ps 0 y)) ≡ drop 1 (outs_waiting ps)
without_piece [] p y some h read one = absurd (omega arith)
without_piece (x ∷ ps) p y some h read one =
    let one' : length (outs_of x) ≡ 1 = sym (ap (λ (z : Piece). length (outs_of z)) read) ∙ one in
    sym (rest_of_both (outs_of x) (outs_waiting ps) (omega arith) ∙ ap (λ (l : List Out). l ++ outs_waiting ps) (none_left (outs_of x) one'))

-- the pieces behind the first are those that they were
pub others_hold_some : (ps : List Piece) (y : Piece) → All HoldsSome ps → All HoldsSome (drop 1 (set ps 0 y))
others_hold_some [] y some = some
others_hold_some (x ∷ ps) y some = All-drop HoldsSome 1 (x ∷ ps) some

-- its first piece holds one frame fewer
pub without_out : (ps : List Piece) (p y : Piece) → All HoldsSome ps → 0 < length ps → p ≡ get_or ps 0 p → outs_of y ≡ drop 1 (outs_of p) → outs_waiting (set ps 0 y) ≡ drop 1 (outs_waiting ps)
without_out [] p y some h read e = absurd (omega arith)
without_out (x ∷ ps) p y some h read e =
    ap (λ (l : List Out). l ++ outs_waiting ps) (e ∙ ap (λ (z : Piece). drop 1 (outs_of z)) read)
    ∙ sym (rest_of_both (outs_of x) (outs_waiting ps) (All-head HoldsSome x ps some))

-- the pieces of a run go where its first frame goes
pub putting_piece : (to_all : Bool) (p : Piece) (outs : List Out) (q : QueueValue) → HoldsSome p → outs ≡ outs_of p
    → put_into (lane_for_piece to_all p) (outs_of p) q ≡ putting to_all outs q
putting_piece to_all (One o) outs q some e = rw e refl
putting_piece to_all (Many [] mark) outs q some e = absurd (omega arith)
putting_piece to_all (Many (n ∷ run) (part.Begun i)) outs q some e = rw e refl
putting_piece to_all (Many (n ∷ run) (part.Session i)) outs q some e = rw e refl

-- what is left of frames from one address
pub sent_from_rest : (source : ℕ) (outs outs' : List Out) → All (IsSentFrom source) outs → outs' ≡ drop 1 outs → All (IsSentFrom source) outs'
sent_from_rest source outs outs' all e = rw e (All-drop (IsSentFrom source) 1 outs all)

pub sent_from_first : (source : ℕ) (outs : List Out) (o : Out) → All (IsSentFrom source) outs → slice_get outs 0 ≡ Some o → IsSentFrom source o
sent_from_first source [] o all e = absurd cc
sent_from_first source (x ∷ outs) o all e = (let same : x ≡ o = cc in subst (IsSentFrom source) same (All-head (IsSentFrom source) x outs all))

pub one_fewer : (outs outs' : List Out) → 0 < length outs → outs' ≡ drop 1 outs → length outs' + 1 ≡ length outs
one_fewer [] outs' h e = absurd (omega arith)
one_fewer (x ∷ outs) outs' h e = rw e (omega arith)
