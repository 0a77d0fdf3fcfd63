use Prim.Native.Nat.{ℕ}
use mathlib.Core.Path.{◌≡◌, refl, sym, subst, ◌∙◌}
use mathlib.Core.Bool.{Bool, false}
use mathlib.Core.List.{List}
use lib.ListN.{take, drop, replicate}
use mir.Syntax.{w64}
use mir.Facts.{to_z-of_z}
use Rattle.laws.specs.Padded.{part_written}
use Rattle.net_model.specs.declared.Network.{Network}
use Rattle.net_model.specs.Struct.{net_in}
use Rattle.flow_least.specs.Marked.{Marked}
use Rattle.flow_enumerate.specs.declared.Enumerator.{Enumerator}
use Rattle.flow_enumerate.specs.Enumerator.{Resumes}
use Rattle.flow_enumerate.proofs.Given.{resume_on, resume_off}
use Rattle.flow_enumerate.proofs.Steps.{on_item_lem, marked_yes, not_marked}
use Rattle.flow_enumerate.proofs.resume.Goals as goal

-- what is said of the network that the state has, of that which is passed
passed : {n k : Network} → n ≡ k → (f : List ℕ) {r : Enumerator} → Resumes (net_in n) (take n.arcs f) r → Resumes (net_in k) (take k.arcs f) r
passed same f {r} x = subst (λ (n : Network). Resumes (net_in n) (take n.arcs f) r) same x

pub returns-then-not-mark_if_least : goal.returns-then-not-mark_if_least
returns-then-not-mark_if_least c =
    let p = c.start-resumed.ensures in
    let n = c.start-resumed.result.net in
    (p.0, p.1, passed p.1 c.args.flow (resume_off (net_in n) p.0.sound.accepted.well_formed _ c.start-resumed.result (not_marked (net_in n) _ _ _ c.mark_if_least.result (rw (c.arcs.ensures, c.balances.ensures) at c.mark_if_least.ensures) c.if-not-mark_if_least.true) p.2))

pub returns : goal.returns
returns c =
    let p = c.start-resumed.ensures in
    let n = c.start-resumed.result.net in
    let g = take n.arcs c.args.flow in
    let free = c.mark_if_least.new.free in
    let m = marked_yes (net_in n) g _ free c.mark_if_least.result (rw (c.arcs.ensures, c.balances.ensures) at c.mark_if_least.ensures) c.if-not-mark_if_least.false in (
      on_item_lem n p.0.sound g c.args.flow _ _ refl (to_z-of_z {w = w64} (record { sfits = c.cost_of.type_inv }) ∙ (rw c.arcs-2.ensures at c.cost_of.ensures))
          (subst (λ (x : List Bool). Marked (net_in n) x g) (sym (part_written free (drop n.arcs (replicate 512 false)) n.arcs (m.marks_len ∙ sym p.0.sound.arcs_held)).1) m),
      p.1,
      passed p.1 c.args.flow (resume_on (net_in n) p.0.sound.accepted.well_formed g _ m.marks.least refl refl),
    )
