use Rattle.graph_routes.proofs.twins.asked_of_twin.Goals as goal

pub returns-in-Get : goal.returns-in-Get
returns-in-Get c = rw c.in-Get.is (c.get_twin.ensures c.args.body.now)

pub returns-in-Delete : goal.returns-in-Delete
returns-in-Delete c = rw c.in-Delete.is (c.drop_twin.ensures c.args.body.now)
