mod LongSteps
mod LongMessages
mod Commits
mod RepeatedMessages
mod Trust
mod Silence
mod Lacking
