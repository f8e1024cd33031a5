use Rattle.cs_node_lines.proofs.FollowingLemmas.Requests.{lines_make_requests, one_list_of_requests}
use Rattle.cs_node_lines.proofs.following.laws.one_list_of_requests.Goals as goal

pub returns-clause-one : goal.returns-clause-one
returns-clause-one c = one_list_of_requests

pub returns-clause-made : goal.returns-clause-made
returns-clause-made c = lines_make_requests
