-- The form that plain data names.
use Rattle.entry_processors.specs.Processors as processor
use Rattle.entry_processors.specs.Processors.{ProcessorForm}
use Rattle.entry_processors.specs.declared.form.Form.{Form}
use Rattle.entry_processors.specs.declared.form.Form.TheVariants as form

abbrev pub form_of : Form → ProcessorForm
form_of form.Add = processor.Add
form_of (form.AddUpTo limit) = processor.AddUpTo limit
form_of form.Append = processor.Append
form_of form.SetIfGreater = processor.SetIfGreater
form_of form.Clear = processor.Clear
