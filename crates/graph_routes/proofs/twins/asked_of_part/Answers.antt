use Rattle.graph_routes.proofs.twins.asked_of_part.Goals as goal

pub returns-in-Get : goal.returns-in-Get
returns-in-Get c = rw c.in-Get.is (c.get_part.ensures c.args.body.now)
