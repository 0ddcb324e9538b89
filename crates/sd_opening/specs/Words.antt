-- What the words ask for, as the definitions have it.
use Rattle.sd_model_call.specs.Call as model
use Rattle.sd_opening.specs.declared.words.Form.{Form}
use Rattle.sd_opening.specs.declared.words.Form.TheVariants.{Replay, Serve, Proxy, Drill}

abbrev pub form_view : Form → model.Form
form_view (Replay settings script) = model.Replay settings.items script.items
form_view (Serve settings) = model.Serve settings.items
form_view (Proxy settings) = model.Proxy settings.items
form_view (Drill packets) = model.Drill packets
