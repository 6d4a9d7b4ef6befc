-- `write` meets its contract: where all of a turn's bytes have room, the three runs that they are made of have.
use Rattle.std.proofs.Common.{Bool, ℕ, List, [], ◌++◌, ◌≡◌, ◌∙◌, cond, length, subst, sym, ap}
use Rattle.std.specs.Option.{unwrap_or}
use Rattle.paper.specs.Check.{part}
use Rattle.paper.specs.Rows.{Rows, no_rows, RowsFit}
use Rattle.paper.specs.Replace.{put_in}
use Rattle.turns.specs.Accepted.{pieces_of}
use Rattle.turns.proofs.Turn.write.Goals.{then-self, else-self}
use Rattle.turns.proofs.Turn.write.Goals as goal

-- what is put in, if anything is
abbrev puts : List ℕ → List ℕ → Bool → Rows → List ℕ
puts template line put rows = cond put (put_in template line rows (pieces_of template)) []

pub put-requires : goal.put-requires
put-requires g c =
    let self = c.args.self in
    let template = c.args.sources.template.now in
    let line = c.args.sources.line.now in
    let rows = unwrap_or self.found no_rows in
    let second = part line self.start self.upto in
    let rest = g.met.O.Output.room_second c.args.output.now c.append.new.self (part line c.args.from self.start) (puts template line self.put rows ++ second)
    c.requires.1 c.append.ensures in
    let is : c.unwrap_or.result ≡ rows = c.unwrap_or.ensures ∙ ap (unwrap_or self.found) c.absent_table.ensures in
    let fits = c.requires.0.rows_fit in
    let room = g.met.O.Output.room_first c.append.new.self (puts template line self.put rows) second rest in (
      subst (RowsFit (length line)) (sym is) fits,
      subst (λ (r : Rows). g.O.Output.has_room c.append.new.self (put_in template line r (pieces_of template))) (sym is)
          (subst (λ (b : Bool). g.O.Output.has_room c.append.new.self (puts template line b rows)) c.if-self.true room),
    )

pub append-requires-2 : goal.append-requires-2
append-requires-2 g c =
    let self = c.args.self in
    let template = c.args.sources.template.now in
    let line = c.args.sources.line.now in
    let rows = unwrap_or self.found no_rows in
    let second = part line self.start self.upto in
    let rest = g.met.O.Output.room_second c.args.output.now c.append.new.self (part line c.args.from self.start) (puts template line self.put rows ++ second)
    c.requires.1 c.append.ensures in
    let appends = g.O.Output.appends c.append.new.self in
    let put : appends (puts template line self.put rows) c.if-self.output =
    elim c.if-self.branch [
      | then-self w ↦
          let is : w.unwrap_or.result ≡ rows = w.unwrap_or.ensures ∙ ap (unwrap_or self.found) w.absent_table.ensures in
          let all = subst (λ (r : Rows). appends (put_in template line r (pieces_of template)) w.put.new.output) is w.put.ensures in
          rw w.output-is (subst (λ (b : Bool). appends (puts template line b rows) w.put.new.output) (sym w.if-self.true) all)
      | else-self w ↦
          rw w.output-is (subst (λ (b : Bool). appends (puts template line b rows) c.append.new.self) (sym w.if-self.false) (g.met.O.Output.appends_none c.append.new.self))
    ] in
    g.met.O.Output.room_second c.append.new.self c.if-self.output (puts template line self.put rows) second rest put
