-- One way for each kind of end.
use Rattle.std.proofs.Common.{◌≡◌, length, rules}
use Rattle.moves.proofs.Ending.{settles_eat, settles_win, settles_early, settles_die}
use Rattle.moves.proofs.settle.Goals as goal
use Rattle.moves.proofs.settle.Goals.{else-here-eq-ACCEPT-via-then-here-eq-ACCEPT+else-is_none, else-here-eq-ACCEPT-via-else-here-eq-ACCEPT}

pub returns-then-eats-clause-settles : goal.returns-then-eats-clause-settles
returns-then-eats-clause-settles c =
    let long : length c.args.rows ≡ 20 = search rules in
    settles_eat c.requires c.args.position.ahead c.args.rows c.eats.result c.eats.ensures c.if-eats.true
    c.carry.new.self.taken.now c.carry.new.self.list.now c.carry.new.self.count long c.carry.ensures.carries

pub returns-then-is_none-clause-settles : goal.returns-then-is_none-clause-settles
returns-then-is_none-clause-settles c =
    let long : length c.args.rows ≡ 20 = search rules in
    settles_win c.requires c.args.position.ahead c.args.rows c.win.new.self.taken.now c.win.new.self.list.now c.win.new.self.count long
    c.if-here-eq-ACCEPT.true (search rules) c.win.ensures.wins

pub returns-clause-settles : goal.returns-clause-settles
returns-clause-settles c =
    elim c.else-here-eq-ACCEPT.branch [
      | else-here-eq-ACCEPT-via-then-here-eq-ACCEPT+else-is_none w ↦
          settles_early c.requires c.args.position.ahead c.args.rows w.if-here-eq-ACCEPT.true (search rules)
      | else-here-eq-ACCEPT-via-else-here-eq-ACCEPT w ↦
          settles_die c.requires c.args.position.ahead c.args.rows w.if-here-eq-ACCEPT.false c.eats.result c.eats.ensures c.if-eats.false
    ]
