mod Numbers
mod Again
