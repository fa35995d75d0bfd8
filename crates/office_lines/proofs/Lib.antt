pub mod handled
pub mod rehearsals
pub mod request_words
pub mod answer_texts
