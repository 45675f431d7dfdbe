-- What a client asks to be told from now on, and the registration that asks for it.
use Rattle.std.specs.Prelude.{ℕ, ℤ, List, [], ◌∷◌, ⊤}
use Rattle.std.specs.Str.{IsUtf8}
use Rattle.fixed_fields.specs.Replies.{flag_byte}
use Rattle.event_codecs.specs.Registrations.{entry_listener_kind, invalidation_listener_kind, cluster_view_kind}
use Rattle.event_codecs.specs.declared.registration.Registration.{Registration}
use Rattle.event_codecs.specs.declared.registration.Registration.TheVariants as registrations
use Rattle.compose_words.specs.declared.saying.Listening.{Listening}
use Rattle.compose_words.specs.declared.saying.Listening.TheVariants.{Entries, Invalidations, Rows}

-- Its events repeat the message's correlation.
abbrev pub registration_of : ℤ → Listening → Registration
registration_of correlation (Entries name with_value) = registrations.Entries correlation name with_value
registration_of correlation (Invalidations name) = registrations.Invalidations correlation name
registration_of correlation Rows = registrations.Rows correlation

abbrev pub kind_of_listening : Listening → ℕ
kind_of_listening (Entries name with_value) = entry_listener_kind
kind_of_listening (Invalidations name) = invalidation_listener_kind
kind_of_listening Rows = cluster_view_kind

-- A byte says whether values are wanted.
abbrev pub listening_fields : Listening → List ℕ
listening_fields (Entries name with_value) = flag_byte with_value ∷ []
listening_fields (Invalidations name) = []
listening_fields Rows = []

-- The frame behind the first holds the map's name.
abbrev pub listening_parts : Listening → List (List ℕ)
listening_parts (Entries name with_value) = name ∷ []
listening_parts (Invalidations name) = name ∷ []
listening_parts Rows = []

-- The map's name is a text.
abbrev pub IsNamedListening : Listening → Type 0
IsNamedListening (Entries name with_value) = IsUtf8 name
IsNamedListening (Invalidations name) = IsUtf8 name
IsNamedListening Rows = ⊤
