use mathlib.Core.Path.{sym, ◌∙◌}
use Rattle.flow_preorder.proofs.Preorder.{stepped_all, stepped_one, stepped}
use Rattle.flow_preorder.proofs.add.Goals as goal

pub returns-then-has-2 : goal.returns-then-has-2
returns-then-has-2 c = stepped c.args.rows.now c.args.p c.args.q c.requires.0 c.requires.1 c.requires.2 _
    (stepped_all c.args.rows.now c.args.p c.args.q c.requires.0 c.requires.1 c.requires.2 _ (sym c.has-2.ensures ∙ c.if-has-2.true) c.join_rows.ensures) c.args.on c.if-not-on.false

pub returns : goal.returns
returns c = stepped c.args.rows.now c.args.p c.args.q c.requires.0 c.requires.1 c.requires.2 _
    (stepped_one c.args.rows.now c.args.p c.args.q c.requires.0 c.requires.1 c.requires.2 (sym c.has-2.ensures ∙ c.if-has-2.false)) c.args.on c.if-not-on.false
