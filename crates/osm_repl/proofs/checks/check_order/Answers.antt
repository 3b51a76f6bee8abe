use Rattle.osm_repl.proofs.checks.check_order.Goals as goal

-- what each word's check ensures is what its order asks for
pub returns-in-Publish-clause-refused : goal.returns-in-Publish-clause-refused
returns-in-Publish-clause-refused c = rw c.in-Publish.is c.check_time.ensures.refused

pub returns-in-PublishAs-clause-refused : goal.returns-in-PublishAs-clause-refused
returns-in-PublishAs-clause-refused c = rw c.in-PublishAs.is c.check_numbered.ensures.refused

pub returns-in-Begin-clause-refused : goal.returns-in-Begin-clause-refused
returns-in-Begin-clause-refused c = rw c.in-Begin.is c.check_base.ensures.refused
