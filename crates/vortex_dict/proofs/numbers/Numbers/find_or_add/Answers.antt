use Rattle.vortex_dict.proofs.numbers.Numbers.find_or_add.Goals as goal

pub returns-in-Some-clause-code : goal.returns-in-Some-clause-code
returns-in-Some-clause-code g c = rw c.in-Some.is c.find_or_put.ensures.code

pub returns-in-Some-clause-new : goal.returns-in-Some-clause-new
returns-in-Some-clause-new g c = rw c.in-Some.is c.find_or_put.ensures.new

pub returns-in-Some-clause-too_large : goal.returns-in-Some-clause-too_large
returns-in-Some-clause-too_large g c = rw c.in-Some.is c.find_or_put.ensures.too_large

pub returns-in-None-clause-code : goal.returns-in-None-clause-code
returns-in-None-clause-code g c = rw c.in-None.is c.find_then_add.ensures.code

pub returns-in-None-clause-too_large : goal.returns-in-None-clause-too_large
returns-in-None-clause-too_large g c = rw c.in-None.is c.find_then_add.ensures.too_large
