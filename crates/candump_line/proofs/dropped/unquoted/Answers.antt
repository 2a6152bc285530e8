use Rattle.std.proofs.Common.{None, Some, ◌∷◌, [], ◌++◌, drop, ap, sym, lit<, ◌∙◌}
use Rattle.std.proofs.lemmas.Str.Pattern.{strip_prefix_char, strip_suffix_char}
use Rattle.candump_line.proofs.DroppedLemmas.{name_cut}
use Rattle.candump_line.proofs.dropped.unquoted.Goals as goal

pub returns-in_err-strip_prefix : goal.returns-in_err-strip_prefix
returns-in_err-strip_prefix c = λ name e. absurd (strip_prefix_char 39 _ None c.in_err-strip_prefix.ensures.cases (lit< tt) (name ++ 39 ∷ []) e)

pub returns : goal.returns
returns c = λ name e.
    let front = strip_prefix_char 39 _ (Some c.in_ok-strip_prefix.field-0) c.in_ok-strip_prefix.ensures.cases (lit< tt) in
    name_cut _ name c.strip_suffix.result (strip_suffix_char 39 _ c.strip_suffix.result c.strip_suffix.ensures.cases (lit< tt)) (ap (drop 1) (sym front ∙ e))
