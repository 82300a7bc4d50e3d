-- The responses to requests.
use Rattle.std.specs.Prelude.{ℕ, List, ◌++◌, codes, Option, Some, None}
use Rattle.desk_base.specs.declared.asked.answers.Answer.{Answer}
use Rattle.desk_base.specs.declared.asked.answers.Outcome.{Outcome}
use Rattle.desk_base.specs.declared.asked.answers.Outcome.TheVariants.{Done, Repeated, Refused, NoMemory}
use Rattle.desk_base.specs.declared.asked.refusals.Refusal.{Refusal}
use Rattle.desk_base.specs.declared.asked.refusals.Refusal.TheVariants.{UnknownId, BadField, BadTree}
use Rattle.desk_wire.specs.declared.rules.Request.{Request}
use Rattle.desk_wire.specs.declared.responses.Response.{Response}
use Rattle.desk_wire.specs.declared.responses.Allow.{Allow}
use Rattle.desk_wire.specs.declared.responses.BodyKind.TheVariants.{Json}
use Rattle.desk_json.specs.declared.faults.BodyRule.{BodyRule}
use Rattle.desk_json.specs.declared.faults.BodyRule.TheVariants as rule
use Rattle.desk_json.specs.Answers.{answer_text}
use Rattle.desk_json.specs.Words.{field_name}
use Rattle.desk_route.specs.declared.refusals.WebRefusal.{WebRefusal}
use Rattle.desk_route.specs.declared.refusals.WebRefusal.TheVariants.{NoRoute, WrongMethod, BadParameter, BadCursor, BadBody, NotBuilt}
use Rattle.desk_route.specs.Parameters.{parameter_name}
use Rattle.desk_route.specs.Requesting.{is_head}

-- a JSON body with this status; the connection closes after it exactly where the request asks for that, and the body of a response to HEAD is
-- counted and not sent
abbrev pub json_response : Request → ℕ → Option Allow → List ℕ → Response
json_response request status allow body =
    record { status = status; kind = Json; allow = allow; close = request.close; bare = is_head request.method; body = body }

-- the status of a refusal: what is not there is not found, a value that breaks a rule of its own is not processed, and every other conflicts
abbrev pub refusal_status : Refusal → ℕ
refusal_status (UnknownId key) = 404
refusal_status (BadField field) = 422
refusal_status (BadTree rule node) = 422
refusal_status _ = 409

-- the status of an outcome
abbrev pub outcome_status : Outcome → ℕ
outcome_status (Done reply) = 200
outcome_status (Repeated receipt) = 200
outcome_status (Refused refusal) = refusal_status refusal
outcome_status NoMemory = 507

-- the response with the text of an answer
unfoldable pub answer_response : Request → Answer → Response
answer_response request answer = json_response request (outcome_status answer.outcome) None (answer_text answer)

-- the status of a request that is no command
abbrev pub web_status : WebRefusal → ℕ
web_status NoRoute = 404
web_status (WrongMethod allow) = 405
web_status (BadParameter parameter) = 400
web_status BadCursor = 400
web_status (BadBody rule field) = 400
web_status NotBuilt = 501

-- where the method is wrong, the one that the route has
abbrev pub allow_of : WebRefusal → Option Allow
allow_of (WrongMethod allow) = Some allow
allow_of _ = None

-- the name of a rule of bodies
abbrev pub rule_name : BodyRule → List ℕ
rule_name rule.Syntax = codes "syntax"
rule_name rule.Object = codes "object"
rule_name rule.Missing = codes "missing"
rule_name rule.Sort = codes "type"
rule_name rule.Range = codes "range"
rule_name rule.Moment = codes "moment"
rule_name rule.Unknown = codes "unknown"

-- the body that tells it
abbrev pub web_text : WebRefusal → List ℕ
web_text NoRoute = codes "{\"error\":\"no_route\"}"
web_text (WrongMethod allow) = codes "{\"error\":\"wrong_method\"}"
web_text (BadParameter parameter) = codes "{\"error\":\"bad_parameter\",\"parameter\":\"" ++ parameter_name parameter ++ codes "\"}"
web_text BadCursor = codes "{\"error\":\"bad_cursor\"}"
web_text (BadBody rule field) = codes "{\"error\":\"bad_body\",\"field\":\"" ++ field_name field ++ codes "\",\"rule\":\"" ++ rule_name rule ++ codes "\"}"
web_text NotBuilt = codes "{\"error\":\"not_built\"}"

-- the response with the text of a refusal
unfoldable pub refusal_response : Request → WebRefusal → Response
refusal_response request refusal = json_response request (web_status refusal) (allow_of refusal) (web_text refusal)
