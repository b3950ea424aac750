use Rattle.door.proofs.exports.over.Goals as goal

pub returns-in-Short : goal.returns-in-Short
returns-in-Short g c = rw c.in-Short.is c.carry_out.ensures

pub returns-in-Long : goal.returns-in-Long
returns-in-Long g c = rw c.in-Long.is c.carry_out-in-Long.ensures

pub returns-in-Polynomial : goal.returns-in-Polynomial
returns-in-Polynomial g c = rw c.in-Polynomial.is c.carry_out-in-Polynomial.ensures
