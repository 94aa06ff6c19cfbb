mod RaisedLemmas
mod BoundLemmas
mod TextLemmas
mod CharLemmas
mod TextBoundLemmas
