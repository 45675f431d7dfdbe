-- The text of what a line told.
use Rattle.std.specs.Prelude.{ℕ, Bool, true, false, List, ◌++◌, codes, decimal}
use Rattle.std.specs.List.{flat_map}
use Rattle.hex.specs.Hex.{encode_lower}
use Rattle.frame_codec.specs.declared.malformed.Malformed.{Malformed}
use Rattle.frame_codec.specs.declared.malformed.Why.{Why}
use Rattle.frame_codec.specs.declared.malformed.Why.TheVariants.{Prefix, TooShort, TooLong, BadFragment, OpenFragments, ManyFrames, LongMessage, ShortStart, Spent}
use Rattle.partition_protocol.specs.Node.{Pair}
use Rattle.partition_protocol.specs.Events.{Outcome}
use Rattle.masters_protocol.specs.Members as masters
use Rattle.master_member.specs.Outcomes.{outcome_of}
use Rattle.partition_world.specs.Events.{happened_of}
use Rattle.rebalance.specs.declared.Step.{Step}
use Rattle.rebalance.specs.declared.StepKind.{StepKind}
use Rattle.rebalance.specs.declared.StepKind.TheVariants.{Move, Handover}
use Rattle.line_told.specs.declared.told.Appended.{Appended}
use Rattle.line_told.specs.declared.told.LineOutcome.{LineOutcome}
use Rattle.line_told.specs.declared.told.LineOutcome.TheVariants.{Ran, Idle, Came, Froze, Flowed, Dumped, InFlight, Trail, Planned, NoMember, Unsettled, Proposed, Busy, Full, MasterTook}
use Rattle.line_told.specs.declared.told.Told.{Told}
use Rattle.line_told.specs.declared.told.Told.TheVariants as told
use Rattle.line_told.specs.declared.told.Ready.{Ready}
use Rattle.line_told.specs.Words.{word, number, line_end, words_line}
use Rattle.line_told.specs.Outcomes.{words_of, master_words}

-- outcomes

abbrev pub ok_text : ℕ → List ℕ
ok_text line = number line ++ codes "ok" ++ line_end

abbrev pub nothing_text : ℕ → List ℕ
nothing_text line = number line ++ codes "nothing" ++ line_end

-- what an event came to
abbrev pub came_text : ℕ → Outcome → List ℕ
came_text line outcome = words_line line (words_of (codes "ok") outcome)

-- An advance that makes no row freezes the move's source.
abbrev pub froze_text : ℕ → List ℕ
froze_text line = words_line line (codes "freezing")

-- `I flow N`: how many messages were delivered, each by an event of its own
abbrev pub flow_text : ℕ → ℕ → List ℕ
flow_text line deliveries = number line ++ codes "flow " ++ decimal deliveries ++ line_end

-- `I dump VERSION COUNT`: the version of what a member has, and how many effects it counts
abbrev pub dump_text : ℕ → Pair → List ℕ
dump_text line pair = number line ++ codes "dump " ++ number pair.version ++ decimal pair.count ++ line_end

-- `I links N`: how many messages are in flight
abbrev pub links_text : ℕ → ℕ → List ℕ
links_text line messages = number line ++ codes "links " ++ decimal messages ++ line_end

-- `I trail N`: how many entries a trail has
abbrev pub trail_text : ℕ → ℕ → List ℕ
trail_text line entries = number line ++ codes "trail " ++ decimal entries ++ line_end

-- `I plan N`: how many steps a plan has
abbrev pub planned_text : ℕ → ℕ → List ℕ
planned_text line steps = number line ++ codes "plan " ++ decimal steps ++ line_end

-- `I refused nomember`, or `I refused unsettled P`: there is no plan

abbrev pub no_member_text : ℕ → List ℕ
no_member_text line = number line ++ codes "refused nomember" ++ line_end

abbrev pub unsettled_text : ℕ → ℕ → List ℕ
unsettled_text line partition = number line ++ codes "refused unsettled " ++ decimal partition ++ line_end

-- what masters answered
abbrev pub master_text : ℕ → masters.Outcome → List ℕ
master_text line answer = words_line line (master_words answer)

abbrev pub outcome_text : ℕ → LineOutcome → List ℕ
outcome_text line Ran = ok_text line
outcome_text line Idle = nothing_text line
outcome_text line (Came happened) = came_text line (happened_of happened)
outcome_text line Froze = froze_text line
outcome_text line (Flowed deliveries) = flow_text line deliveries
outcome_text line (Dumped pair) = dump_text line pair
outcome_text line (InFlight messages) = links_text line messages
outcome_text line (Trail entries) = trail_text line entries
outcome_text line (Planned steps) = planned_text line steps
outcome_text line NoMember = no_member_text line
outcome_text line (Unsettled partition) = unsettled_text line partition
outcome_text line (Proposed number) = master_text line (masters.Proposed number)
outcome_text line (Busy length) = master_text line (masters.RefusedBusy length)
outcome_text line Full = master_text line masters.RefusedFull
outcome_text line (MasterTook took) = master_text line (outcome_of took)

-- what follows an outcome

abbrev pub kind_word : StepKind → List ℕ
kind_word Move = codes "move"
kind_word Handover = codes "handover"

-- `I step P F T KIND`: partition P goes from member F to member T
abbrev pub step_text : ℕ → Step → List ℕ
step_text line step = number line ++ codes "step " ++ number step.partition ++ number step.from ++ number step.to ++ kind_word step.kind ++ line_end

-- `I done P`, or `I open P` where a move is still under way
abbrev pub end_word : Bool → List ℕ
end_word true = codes "open "
end_word false = codes "done "

abbrev pub end_text : ℕ → ℕ → Bool → List ℕ
end_text line partition moving = number line ++ end_word moving ++ decimal partition ++ line_end

-- `I to C HEX`
abbrev pub appended_text : Appended → List ℕ
appended_text m = number m.line ++ codes "to " ++ number m.conn ++ encode_lower m.bytes ++ line_end

-- `I published P NUMBER`
abbrev pub published_text : ℕ → ℕ → ℕ → List ℕ
published_text line partition number = words_line line (codes "published " ++ word (decimal partition) ++ decimal number)

-- the word of a fault
abbrev pub fault_word : Why → List ℕ
fault_word Prefix = codes "prefix"
fault_word TooShort = codes "tooshort"
fault_word TooLong = codes "toolong"
fault_word BadFragment = codes "badfragment"
fault_word OpenFragments = codes "openfragments"
fault_word ManyFrames = codes "manyframes"
fault_word LongMessage = codes "longmessage"
fault_word ShortStart = codes "shortstart"
fault_word Spent = codes "spent"

-- `I close C AT WHY`
abbrev pub fault_text : ℕ → ℕ → Malformed → List ℕ
fault_text line c fault = number line ++ codes "close " ++ number c ++ number fault.at ++ fault_word fault.why ++ line_end

-- the law

abbrev pub told_text : ℕ → Told → List ℕ
told_text line (told.Outcome outcome) = outcome_text line outcome
told_text line (told.Step step) = step_text line step
told_text line (told.Message message) = appended_text message
told_text line (told.Ended partition moving) = end_text line partition moving
told_text line (told.Published partition place) = published_text line partition place
told_text line (told.Closed c fault) = fault_text line c fault

-- All that a line told is printed in its order.
abbrev pub text_of : ℕ → List Told → List ℕ
text_of line all = flat_map (told_text line) all

-- What the line wrote as it went stands behind that.
abbrev pub ready_text : ℕ → Ready → List ℕ
ready_text line ready = text_of line ready.told.items ++ ready.printed.items
