use Rattle.std.proofs.Common.{rules, ◌≡◌, false, true, subst, sym, ℕ}
use Rattle.can_frame.specs.Fields.{source_of}
use Rattle.node_core.specs.Commanding.{is_to_all}
use Rattle.node_core.specs.Passing.{IsAcceptance}
use Rattle.node_core.specs.declared.acceptance.Acceptance.TheVariants.{Packet}
use Rattle.node_core.proofs.Accepting.{accepts_packet, accepts_single}
use Rattle.node_core.proofs.acceptance.of_packet.Goals as goal

pub returns-then-is_broadcast : goal.returns-then-is_broadcast
returns-then-is_broadcast c =
    let f = c.args.frame.now in
    let from : c.source-source.result ≡ source_of f.id = search rules in
    let all : is_to_all c.args.dest (source_of f.id) ≡ true = search (rules, c.if-is_broadcast.true) in
    subst (λ (s : ℕ). IsAcceptance (Packet s f) f) (sym from) (accepts_packet f c.args.dest c.requires.group c.requires.dest all)

pub returns-else-is_broadcast : goal.returns-else-is_broadcast
returns-else-is_broadcast c =
    let f = c.args.frame.now in
    let single : is_to_all c.args.dest (source_of f.id) ≡ false = search (rules, c.if-is_broadcast.false) in
    accepts_single f c.args.dest c.requires.group c.requires.dest single
