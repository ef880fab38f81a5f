use Rattle.graph_routes.proofs.asks.asked_of_model.Goals as goal

pub returns-in-Get : goal.returns-in-Get
returns-in-Get c = rw c.in-Get.is (c.get_model.ensures c.args.body.now)

pub returns-in-Delete : goal.returns-in-Delete
returns-in-Delete c = rw c.in-Delete.is (c.drop_model.ensures c.args.body.now)
