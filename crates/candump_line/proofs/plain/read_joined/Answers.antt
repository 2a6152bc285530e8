use Rattle.std.proofs.Common.{Some, ◌∙◌, inl, inr, refl, lit<}
use Rattle.std.proofs.lemmas.Str.Pattern.{starts_char}
use Rattle.candump_line.proofs.BytesLemmas.{cut_id, marks_none, not_ok, ok_same, spelled_at}
use Rattle.candump_line.proofs.plain.read_joined.Goals.{then-starts_with-2-via-then-starts_with-2, then-starts_with-2-via-else-starts_with-2+then-starts_with-3}
use Rattle.candump_line.proofs.plain.read_joined.Goals as goal

pub returns-in_default : goal.returns-in_default
returns-in_default c = λ f bytes long spelled e side. absurd (rw c.in_default.is at (cut_id _ bytes f.id c.split_once.result c.split_once.ensures.cases e))

pub returns-in-Err : goal.returns-in-Err
returns-in-Err c = λ f bytes long spelled e side.
    let cut = cut_id _ bytes f.id (Some (c.in-Some.id, c.in-Some.rest)) c.in-Some.ensures.cases e in
    absurd (not_ok _ _ (c.in-Err.ensures.reads f.id long.id cut.0))

pub returns-then-starts_with : goal.returns-then-starts_with
returns-then-starts_with c = λ f bytes long spelled e side.
    let cut = cut_id _ bytes f.id (Some (c.in-Some.id, c.in-Some.rest)) c.in-Some.ensures.cases e in
    let tests = starts_char 35 _ _ c.starts_with.ensures.cases (lit< tt) (lit< tt) in
    absurd (marks_none _ bytes f.bytes 35 cut.1 spelled (inl refl) (tests.0 c.if-starts_with.true))

pub returns-then-starts_with-2 : goal.returns-then-starts_with-2
returns-then-starts_with-2 c = λ f bytes long spelled e side.
    let cut = cut_id _ bytes f.id (Some (c.in-Some.id, c.in-Some.rest)) c.in-Some.ensures.cases e in
    let upper = starts_char 82 _ _ c.starts_with-2.ensures.cases (lit< tt) (lit< tt) in
    elim c.then-starts_with-2.branch [
      | then-starts_with-2-via-then-starts_with-2 w ↦ absurd (marks_none _ bytes f.bytes 82 cut.1 spelled (inr (inl refl)) (upper.0 w.if-starts_with-2.true))
      | then-starts_with-2-via-else-starts_with-2+then-starts_with-3 w ↦
          let lower = starts_char 114 _ _ w.starts_with-else-starts_with-2.ensures.cases (lit< tt) (lit< tt) in
          absurd (marks_none _ bytes f.bytes 114 cut.1 spelled (inr (inr refl)) (lower.0 w.if-starts_with-3.true))
    ]

pub returns-in-Ok-read_bytes : goal.returns-in-Ok-read_bytes
returns-in-Ok-read_bytes c = λ f bytes long spelled e side.
    let cut = cut_id _ bytes f.id (Some (c.in-Some.id, c.in-Some.rest)) c.in-Some.ensures.cases e in
    let told = ok_same _ _ (c.in-Ok.ensures.reads f.id long.id cut.0) in
    let read = c.in-Ok-read_bytes.ensures f.bytes long.bytes long.len (spelled_at _ bytes f.bytes cut.1 spelled) in
    c.content_of.ensures.told f long told (c.as_slice.ensures ∙ read)

pub returns-in-Err-read_bytes : goal.returns-in-Err-read_bytes
returns-in-Err-read_bytes c = λ f bytes long spelled e side.
    let cut = cut_id _ bytes f.id (Some (c.in-Some.id, c.in-Some.rest)) c.in-Some.ensures.cases e in
    absurd (c.in-Err-read_bytes.ensures f.bytes long.bytes long.len (spelled_at _ bytes f.bytes cut.1 spelled))
