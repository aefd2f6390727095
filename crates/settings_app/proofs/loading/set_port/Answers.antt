-- The fault is the one that was found.
use Rattle.settings_app.proofs.loading.set_port.Goals as goal

pub returns-in-Err-Invalid-clause-no_json : goal.returns-in-Err-Invalid-clause-no_json
returns-in-Err-Invalid-clause-no_json c = λ e. c.fault_of.ensures.no_json (cc)
