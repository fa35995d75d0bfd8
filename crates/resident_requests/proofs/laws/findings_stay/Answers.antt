use Rattle.resident_requests.proofs.http_requests.Continuations.{request_stays, fault_stays, no_request_after}
use Rattle.resident_requests.proofs.laws.findings_stay.Goals as goal

pub returns-clause-request : goal.returns-clause-request
returns-clause-request c = request_stays

pub returns-clause-fault : goal.returns-clause-fault
returns-clause-fault c = fault_stays

pub returns-clause-no_request : goal.returns-clause-no_request
returns-clause-no_request c = no_request_after
