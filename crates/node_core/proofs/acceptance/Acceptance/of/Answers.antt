use Rattle.std.proofs.Common.{rules, ◌≡◌, ◌≢◌, ◌≤◌, Some}
use Rattle.can_frame.specs.Fields.{pgn_of, pdu_format_of, destination_of}
use Rattle.node_core.proofs.Accepting.{accepts_to_all, accepts_other, accepts_request}
use Rattle.node_core.proofs.acceptance.Acceptance.of.Goals as goal

pub returns-in_default : goal.returns-in_default
returns-in_default c =
    let high : 240 ≤ pdu_format_of c.args.frame.now.id = search rules in
    accepts_to_all c.args.frame.now high

pub returns-in-REQUEST : goal.returns-in-REQUEST
returns-in-REQUEST c =
    let f = c.args.frame.now in
    let group : pgn_of f.id ≡ 59904 = search rules in
    let to : destination_of f.id ≡ Some c.in-Some.dest = search rules in
    accepts_request f c.in-Some.dest group to

pub returns-in_default-pgn : goal.returns-in_default-pgn
returns-in_default-pgn c =
    let f = c.args.frame.now in
    let claim : pgn_of f.id ≢ 60928 = search rules in
    let request : pgn_of f.id ≢ 59904 = search rules in
    let message : pgn_of f.id ≢ 60416 = search rules in
    let packet : pgn_of f.id ≢ 60160 = search rules in
    accepts_other f claim request message packet
